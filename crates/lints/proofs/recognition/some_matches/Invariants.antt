use Rattle.lints.proofs.RecognitionLaws.{MatchesLeft}
use Rattle.file.specs.Sections.{file_of}
use Rattle.matching.specs.Literal.{literal_terms}
use Rattle.sentences.specs.Entry.{argument_in}
use Rattle.lints.proofs.recognition.some_matches.Given as goal

-- some sentence matches if one of those left does
abbrev pub invariant-loop-s : goal.invariant-loop-s
invariant-loop-s l =
    MatchesLeft (file_of l.fn.accepted.law.bytes.now) l.fn.f (literal_terms (argument_in (file_of l.fn.accepted.law.bytes.now) l.fn.t)) l.s l.s-end
