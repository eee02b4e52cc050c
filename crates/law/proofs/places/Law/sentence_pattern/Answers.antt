-- The pattern's part has as many records as the sentence says, all allowed, and the same variables.
use Rattle.std.proofs.Common.{◌∙◌}
use Rattle.law.proofs.PatternLaws.{pattern_length, pattern_allowed, pattern_variables_lem}
use Rattle.law.proofs.places.Law.sentence_pattern.Goals as goal

pub invariant_of-pattern : goal.invariant_of-pattern
invariant_of-pattern c =
    let law = c.args.self.now in
    record {
      whole = rw (c.pattern_size.ensures, c.pattern.ensures) (pattern_length _ _ law.indexed _ c.requires.1);
      allowed = rw (c.text.ensures, c.pattern.ensures, c.pattern_size.ensures) (pattern_allowed _ _ law.indexed _ c.requires.1 c.requires.0);
    }

pub returns : goal.returns
returns c =
    c.is_allowed.ensures
    ∙ rw (c.text.ensures, c.pattern.ensures, c.pattern_size.ensures, pattern_variables_lem _ _ c.args.self.now.indexed _ c.requires.1)
