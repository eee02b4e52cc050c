use Rattle.std.proofs.Common.{◌+◌, length, drop}
use Rattle.encoding.specs.Code.FlatTerms.{outside, flat_terms}
use Rattle.writing.specs.Code.Closers.{Nested}
use Rattle.writing.specs.Code.Place.{where_of}
use Rattle.writing.specs.Code.Held.{Stand}
use Rattle.writing.proofs.PassingLaws.{Rounds}
use Rattle.writing.proofs.source.Source.term_section.Given as goal

-- the records of the tokens so far are put
abbrev pub invariant-loop-i : goal.invariant-loop-i
invariant-loop-i l =
    Rounds (λ ts. Nested l.self.tokens.now l.ahead ts × Stand l.self.text.now ts) (flat_terms outside) (λ ts. flat_terms (where_of l.place) (drop l.i ts)) (length l.self.tokens.now) 1680000 l.initial.out (l.at + 4) l.i l.next l.out
