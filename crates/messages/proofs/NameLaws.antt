-- Names that a law spells: where the name of a call stands, and that no name is long.
use Prim.Native.Nat.{ℕ, ◌+◌, ◌*◌, ◌≤◌}
use mathlib.Core.Bool.{true}
use mathlib.Core.List.{List}
use mathlib.Core.Path.{◌≡◌, sym, ap, ◌∙◌}
use native.Mathlib.Omega.{arith}
use lib.ListN.{length, take, drop, get_or, length-take, length-drop}
use Rattle.file.specs.Word.{word_at}
use Rattle.file.specs.Answer.{given}
use Rattle.file.specs.Sections.{sections_of, file_of}
use Rattle.file.specs.Fields.{fields_allowed}
use Rattle.file.proofs.SectionLaws.{sections_limits, sections_records}
use Rattle.law.specs.Places.{first_sentence}
use Rattle.law.specs.Reading.{name_at, function_name}
use Rattle.law.specs.Code.Index.{Indexed}
use Rattle.law.proofs.IndexLaws.{functions_limit}
use Rattle.formats.proofs.SlotLaws.{call_name_inside}
use Rattle.lints.specs.Code.Records.{call_at}
use Rattle.messages.specs.Code.Spoken.{CallHere}

-- a name is no longer than the text
name_short : (bytes : List ℕ) → sections_of bytes ≡ given (file_of bytes) → (a b : ℕ)
    → length (name_at (file_of bytes).text.records a b).spelled ≤ 4096
name_short bytes h a b =
    let text : List ℕ = (file_of bytes).text.records in
    omega (
      arith,
      length-take b (drop a text),
      length-drop a text,
      (sections_records bytes (file_of bytes) h).0,
      (sections_limits bytes (file_of bytes) h).0,
    )

module _ {bytes index : List ℕ} (indexed : Indexed bytes index) where
  -- the first record after those of functions' sentences, as the index has it
  module _ {n : ℕ} (all : n ≡ get_or index 4 0) where
    count_is : n ≡ (file_of bytes).functions.count
    count_is = all ∙ indexed.words.functions

    pub functions_few : n ≤ 64
    functions_few = omega (arith, count_is, functions_limit bytes index indexed)

    pub first_in_block : {s : ℕ} → s ≡ get_or index (8 + n) 0 → s ≡ first_sentence (file_of bytes) (file_of bytes).functions.count
    first_in_block e = e ∙ (ap (λ k. get_or index (8 + k) 0) count_is ∙ indexed.words.first_sentences (file_of bytes).functions.count (omega arith))

  -- a function's name
  pub owner_short : (position : ℕ) {name : List ℕ} → name ≡ (function_name (file_of bytes) position).spelled → length name ≤ 4096
  owner_short position e =
      let records : List ℕ = (file_of bytes).functions.records in
      rw e (name_short bytes indexed.sections (word_at records (20 * position)) (word_at records (20 * position + 4)))

  module _ {t start len : ℕ} {text : List ℕ} (here : CallHere (file_of bytes) t) (from : start ≡ word_at (file_of bytes).terms.records (24 * t + 4))
      (size : len ≡ word_at (file_of bytes).terms.records (24 * t + 8)) (all : text ≡ (file_of bytes).text.records) where
    -- a call's name lies inside the text
    pub call_inside : fields_allowed (file_of bytes) ≡ true → start + len ≤ length text
    call_inside fields =
        rw all (call_name_inside (file_of bytes) t start len fields here.inside here.kind from size)

    -- it is read, and is not long
    pub call_read : {name : List ℕ} → name ≡ take len (drop start text) → ((call_at (file_of bytes) t).name.spelled ≡ name) × (length name ≤ 4096)
    call_read {name} e =
        let is : name ≡ (call_at (file_of bytes) t).name.spelled = e ∙ rw (all, from, size) in
        let records : List ℕ = (file_of bytes).terms.records in
        (sym is, rw is (name_short bytes indexed.sections (word_at records (24 * t + 4)) (word_at records (24 * t + 8))))
