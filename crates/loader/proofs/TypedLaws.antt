-- What an editor relies on when a law is typed, and the contract of `bilzarko_read`: each follows from the other.
use Prim.Native.Nat.{ℕ, zero, suc, ◌+◌, ◌≤◌, ◌<◌}
use mathlib.Core.Bool.{Bool, true, false, not}
use mathlib.Core.List.{List, [], ◌∷◌, ◌++◌}
use mathlib.Core.Option.{Option, none, some, none-ne-some}
use mathlib.Core.Path.{◌≡◌, refl, sym, ◌∙◌, ap, subst}
use native.Mathlib.Omega.{arith}
use borrow.Author.Tests.{lt-ltb, le-ltb, ltb-true, ltb-false}
use lib.Dec.{ltb}
use lib.ListN.{length, take, drop, get_or}
use lib.Seq.{take-append_seam}
use Rattle.file.specs.Answer.{Answer, refused, given, refuse_if, ◌>>=◌, ◌>>◌}
use Rattle.law.specs.Tree.{Law}
use Rattle.law.specs.Law.{law_of}
use Rattle.buffers.specs.Written.{written}
use Rattle.grammar.specs.Grammar.{Text, Written}
use Rattle.grammar.specs.Read.{phrase_of}
use Rattle.grammar.proofs.Reading.{written_found, found_written}
use Rattle.law.specs.Depth.{depth_of}
use Rattle.encoding.specs.Encode.{sentences_of, encode}
use Rattle.encoding.specs.TextTree.{tree_of_text}
use Rattle.encoding.specs.LawOfText.{all_of, count_over, spellings_short, few_variables, law_of_text}
use Rattle.encoding.proofs.EncodedLaw.{encoded_law, encoded_tree}
use Rattle.buffers.proofs.FittedLaws as fitted
use Rattle.reader.specs.Outcome.{text_file, read_by, read_outcome}
use Rattle.bilzarko.specs.Exported.{ReadExit, read_exit}
use Rattle.loader.specs.Rows.{After, returned}
use Rattle.loader.specs.Typed.{Phrased, Typed}

abbrev seen : ReadExit → After
seen e = returned e.number [] e.law (e.answer ∷ [])

abbrev exit_of : After → ReadExit
exit_of a = record { number = a.number; law = a.words; answer = get_or a.answer 0 0 }

-- no refusal's number is 0
passed : (m : ℕ) (t : Bool) (after : Answer Law) → refuse_if (suc m) t >> after ≡ refused 0 → after ≡ refused 0
passed m true after e = let z : ◌≡◌ {A = ℕ} (suc m) 0 = cc in absurd (omega (arith, z))
passed m false after e = e

given_none : (read : Law) → given read ≡ refused 0 → ⊥
given_none read e = let z : ◌≡◌ {A = ℕ} 0 1 = cc in omega (arith, z)

never_zero : (bytes : List ℕ) (x : Text) → law_of_text bytes x ≡ refused 0 → ⊥
unfolding law_of_text
never_zero bytes x e =
    given_none (tree_of_text x)
    (passed 8 (not (all_of few_variables (sentences_of x))) _
    (passed 7 (ltb 32 (depth_of (tree_of_text x))) _
    (passed 4 (not (spellings_short x)) _
    (passed 3 (count_over x) _
    (passed 0 (ltb 16384 (length (encode bytes x))) _ e)))))

module _ (bytes law : List ℕ) (answer : ℕ) where
  abbrev seen_by : Answer (List ℕ) → After
  seen_by file = seen (read_exit answer (read_by law file))

  -- ---- the rows

  over : 4096 < length bytes → seen_by (text_file bytes) ≡ returned 4 [] law (answer ∷ [])
  unfolding text_file read_by
  over h = rw (lt-ltb 4096 (length bytes) h) refl

  none_read : length bytes ≤ 4096 → phrase_of bytes ≡ none → seen_by (text_file bytes) ≡ returned 16 [] law (answer ∷ [])
  unfolding text_file read_by
  none_read h e = rw (le-ltb 4096 (length bytes) h, e) refl

  unphrased : ((text : Text) → Written bytes text → ⊥) → (o : Option Text) → phrase_of bytes ≡ o → phrase_of bytes ≡ none
  unphrased h none e = e
  unphrased h (some x) e = absurd (h x (found_written bytes x e))

  module _ (x : Text) (p : Phrased bytes x) where
    here : text_file bytes ≡ law_of_text bytes x >>= (λ _. given (encode bytes x))
    unfolding text_file
    here = rw (le-ltb 4096 (length bytes) p.few, written_found bytes x p.written, encoded_law bytes x p.written p.few) refl

    turned : (n : ℕ) → law_of_text bytes x ≡ refused n → seen_by (text_file bytes) ≡ returned n [] law (answer ∷ [])
    unfolding read_by
    turned n e = rw (here, e) refl

    module _ (read : Law) (e : law_of_text bytes x ≡ given read) where
      short : length law < length (encode bytes x) → seen_by (text_file bytes) ≡ returned 17 [] law (answer ∷ [])
      unfolding read_by
      short h = rw (here, e, fitted.too_long 17 law (encode bytes x) h) refl

      fits : length (encode bytes x) ≤ length law
          → seen_by (text_file bytes) ≡ returned 0 [] (encode bytes x ++ drop (length (encode bytes x)) law) (length (encode bytes x) ∷ [])
      unfolding read_by written
      fits h =
          let same : 0 + length (encode bytes x) ≡ length (encode bytes x) = omega arith in
          rw (here, e, fitted.fits 17 law (encode bytes x) h, same) refl

  -- ---- from the exported contract

  module _ (exit : ReadExit) (exported : exit ≡ read_exit answer (read_outcome bytes law)) where
    sees : seen exit ≡ seen_by (text_file bytes)
    unfolding read_outcome
    sees = ap seen exported

    abbrev Read : Text → After → Type 0
    Read x a = a.number ≡ 0 → law_of (take (get_or a.answer 0 0) a.words) ≡ given (tree_of_text x)

    module _ (x : Text) (p : Phrased bytes x) where
      by_room : (read : Law) → law_of_text bytes x ≡ given read → (b : Bool) → ltb (length law) (length (encode bytes x)) ≡ b → Read x (seen exit)
      by_room read e true h = subst (Read x) (sym (sees ∙ short x p read e (ltb-true (length law) (length (encode bytes x)) h))) (λ none. absurd (omega (arith, none)))
      by_room read e false h =
          let room = ltb-false (length law) (length (encode bytes x)) h in
          let whole : law_of (encode bytes x) ≡ given read = encoded_law bytes x p.written p.few ∙ e in
          let file = take-append_seam (encode bytes x) (drop (length (encode bytes x)) law) in
          subst (Read x) (sym (sees ∙ fits x p read e room)) (λ _. ap law_of file ∙ whole ∙ ap given (encoded_tree bytes x p.written p.few read whole))

      by_law : (a : Answer Law) → law_of_text bytes x ≡ a → Read x (seen exit)
      by_law (refused zero) e = absurd (never_zero bytes x e)
      by_law (refused (suc n)) e = subst (Read x) (sym (sees ∙ turned x p (suc n) e)) (λ none. absurd (omega (arith, none)))
      by_law (given read) e = by_room read e (ltb (length law) (length (encode bytes x))) refl

    pub typed : Typed bytes law (answer ∷ []) (seen exit)
    typed = record {
      text_refused = λ h. sees ∙ over h;
      outside = λ h none. sees ∙ none_read h (unphrased none (phrase_of bytes) refl);
      law_refused = λ x p n e. sees ∙ turned x p n e;
      room_refused = λ x p read e h. sees ∙ short x p read e h;
      writes = λ x p read e h. sees ∙ fits x p read e h;
      is_law = λ x p. by_law x p (law_of_text bytes x) refl;
    }

  -- ---- the exported contract

  module _ (exit : ReadExit) (typed : Typed bytes law (answer ∷ []) (seen exit)) where
    module _ (x : Text) (p : Phrased bytes x) where
      of_room : (read : Law) → law_of_text bytes x ≡ given read → (b : Bool) → ltb (length law) (length (encode bytes x)) ≡ b → seen exit ≡ seen_by (text_file bytes)
      of_room read e true h =
          let less = ltb-true (length law) (length (encode bytes x)) h in
          typed.room_refused x p read e less ∙ sym (short x p read e less)
      of_room read e false h =
          let room = ltb-false (length law) (length (encode bytes x)) h in
          typed.writes x p read e room ∙ sym (fits x p read e room)

      of_law : (a : Answer Law) → law_of_text bytes x ≡ a → seen exit ≡ seen_by (text_file bytes)
      of_law (refused n) e = typed.law_refused x p n e ∙ sym (turned x p n e)
      of_law (given read) e = of_room read e (ltb (length law) (length (encode bytes x))) refl

    of_phrase : length bytes ≤ 4096 → (o : Option Text) → phrase_of bytes ≡ o → seen exit ≡ seen_by (text_file bytes)
    of_phrase few none e =
        let nothing : (x : Text) → Written bytes x → ⊥ = λ x w. none-ne-some x (sym e ∙ written_found bytes x w) in
        typed.outside few nothing ∙ sym (none_read few e)
    of_phrase few (some x) e =
        let p : Phrased bytes x = record { few = few; written = found_written bytes x e } in
        of_law x p (law_of_text bytes x) refl

    of_length : (b : Bool) → ltb 4096 (length bytes) ≡ b → seen exit ≡ seen_by (text_file bytes)
    of_length true e = let more = ltb-true 4096 (length bytes) e in typed.text_refused more ∙ sym (over more)
    of_length false e = of_phrase (ltb-false 4096 (length bytes) e) (phrase_of bytes) refl

    pub exported : exit ≡ read_exit answer (read_outcome bytes law)
    unfolding read_outcome
    exported = ap exit_of (of_length (ltb 4096 (length bytes)) refl)
