-- The records before the i-th are allowed, and the others are left.
use Rattle.std.proofs.Common.{ℕ, ◌*◌}
use Rattle.file.specs.Fields.{term_fields_at}
use Rattle.file.proofs.Records.{PassedTo}
use Rattle.file.proofs.terms_allowed.Given as goal

abbrev pub invariant-loop-fields : goal.invariant-loop-fields
invariant-loop-fields l =
    (i : ℕ) × PassedTo 24 (λ k. term_fields_at l.text.bytes.now l.terms (24 * k)) l.terms l.fields-iterator.rest.now l.fields-iterator.size i
