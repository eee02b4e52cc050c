use Rattle.std.proofs.Common.{ℕ, ◌≡◌, ◌+◌, ◌-◌, ◌<◌, arith, ◌∙◌, set, length}
use Rattle.std.proofs.lemmas.List.{map-set, length-map}
use Rattle.tokens.specs.Code.Arrays.{kinds_in}
use Rattle.writing.specs.Code.Closers.{From, closers_in, sums_in, closer_of, sum_of}
use Rattle.writing.proofs.HeldLaws.{kinds_size, kind_there, start_there, end_there}
use Rattle.writing.proofs.CloserLaws.{from_end, from_set, sum_end, sum_next}
use Rattle.writing.proofs.source.Source.look_ahead.Goals as goal

pub loop-passed-init : goal.loop-passed-init
loop-passed-init c =
    let tokens = c.args.self.now.tokens.now in
    let l = kinds_size tokens in
    let end : length tokens - 0 ≡ length (kinds_in tokens) = omega arith in (
      omega arith,
      rw end (from_end _ _ _),
      λ ts h st. rw end (sum_end _ h, from_end _ _ _),
    )

pub loop-passed-preserved : goal.loop-passed-preserved
loop-passed-preserved c =
    let tokens = c.args.self.now.tokens.now in
    let l = kinds_size tokens in
    let ahead = c.loop-passed.ahead in
    let now : ℕ = length tokens - (c.loop-passed.passed + 1) in
    let i : ℕ = length tokens - 1 - c.loop-passed.passed in
    let here : now ≡ i = omega arith in
    let before : length tokens - c.loop-passed.passed ≡ i + 1 = omega arith in
    let room : (i < length tokens) × (i < length ahead) = (omega arith, omega arith) in
    let kind = kind_there tokens i _ room.0 in
    let inv = c.loop-passed.invariant in (
      omega (arith, inv.0, c.weight-records.ensures.0),
      (
          let closers : From i (length (kinds_in tokens)) (set (closers_in ahead) i c.closer_before-closer.result) (closer_of (kinds_in tokens)) =
          from_set (closers_in ahead) (closer_of (kinds_in tokens)) before (omega (arith, length-map ahead (λ x. x.closer)))
          (c.closer_before-closer.ensures.1 (rw before at inv.1)) inv.1 in
          rw (here, map-set) closers
          ),
      λ ts h st.
          let sum : c.loop-passed.records + c.weight-records.result ≡ sum_of (kinds_in tokens) ts i =
          sum_next h c.args.self.now.text.now before (omega arith) st (start_there tokens i _ room.0) (end_there tokens i _ room.0) c.called_at-called.ensures
          (λ p e. c.weight-records.ensures.1 p (kind ∙ e)) (inv.2 ts h st).0 in
          let sums : From i (length (kinds_in tokens)) (set (sums_in ahead) i (c.loop-passed.records + c.weight-records.result)) (sum_of (kinds_in tokens) ts) =
          from_set (sums_in ahead) (sum_of (kinds_in tokens) ts) before (omega (arith, length-map ahead (λ x. x.records))) sum (inv.2 ts h st).1 in
          rw here (sum, rw map-set sums),
    )

pub returns : goal.returns
returns c =
    let l = kinds_size c.args.self.now.tokens.now in
    record {
      closed = λ j m n. c.loop-passed.invariant.1 j (omega arith) n;
      summed = λ ts h st j m n. (c.loop-passed.invariant.2 ts h st).1 j (omega arith) n;
    }
