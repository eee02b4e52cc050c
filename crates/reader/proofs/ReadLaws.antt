-- A law for each return of the code that reads a text.
use Prim.Native.Nat.{ℕ, ◌+◌, ◌≤◌, ◌<◌}
use mathlib.Core.Bool.{Bool, true, false}
use mathlib.Core.List.{List, []}
use mathlib.Core.Option.{none, some}
use mathlib.Core.Path.{◌≡◌, sym, ap, ◌∙◌}
use native.Mathlib.Omega.{arith}
use lib.ListN.{length, take, drop, length-take}
use lib.Seq.{take-append_seam, length-take-le}
use borrow.Author.Tests.{lt-ltb, le-ltb}
use Rattle.file.specs.Answer.{Answer, refused, given, map_answer, ◌>>=◌}
use Rattle.file.specs.Sections.{sections_of}
use Rattle.file.specs.declared.Refusal.{Refusal}
use Rattle.file.specs.declared.Refusal.TheVariants.{FileOver}
use Rattle.law.specs.Tree as tree
use Rattle.law.specs.Law.{law_of, check_answer, check_of}
use Rattle.std.proofs.Common.{Result, Ok, Err, None, map}
use Rattle.std.specs.Prelude.{IsErrAnd}
use Rattle.buffers.proofs.FittedLaws.{fits, too_long}
use Rattle.buffers.specs.Written.{written}
use Rattle.buffers.specs.Code.Put.{Put}
use Rattle.buffers.proofs.PutLaws.{put_room}
use Rattle.std.proofs.lemmas.List.{take_all, take-map, length-map}
use Rattle.tokens.specs.Code.TokenKind.{kind_code}
use Rattle.tokens.specs.Code.Arrays.{kinds_in, Lexes, LexedAs}
use Rattle.tokens.specs.declared.Lexeme.{Lexeme}
use Rattle.tokens.specs.Token.{Placed, placed}
use Rattle.grammar.specs.Read.{phrase_of}
use Rattle.grammar.specs.Grammar.{Text}
use Rattle.grammar.specs.Code.Machine.{accepts_kinds}
use Rattle.grammar.specs.declared.table.Mode.TheVariants.{AtText as at_text}
use Rattle.encoding.specs.Encode.{encode}
use Rattle.encoding.specs.Code.FlatFile.{flat_file}
use Rattle.writing.specs.Code.Held.{HeldIn, Stand}
use Rattle.writing.proofs.LexedLaws.{unlexed, tokens_held, tokens_stand, refused_outside, taken_phrase}
use Rattle.reader.specs.declared.Unread.TheVariants.{TextOver, Outside, Law, Short}
use Rattle.reader.specs.Outcome.{law_file, phrase_file, text_file, ReadOutcome, read_by, read_outcome, read_after}

-- an error that was passed on
pub passed_on : {A E : Type 0} (e : E) (r : Result A E) → IsErrAnd r (λ x. x ≡ e) → r ≡ Err e
passed_on e (Ok a) h = absurd h
passed_on e (Err x) h = ap Err h

-- ---- a file and a buffer

pub too_short : (file law : List ℕ) → length law < length file → read_after (Err Short) law ≡ read_by law (given file)
unfolding read_by
too_short file law h = rw (too_long 17 law file h)

pub delivered : (file law after : List ℕ) (end : ℕ) → length file ≤ length law → Put law 0 file end after
    → read_after (Ok end) after ≡ read_by law (given file)
unfolding read_by
delivered file law after end h p =
    let size : end ≡ length file = omega (arith, p.end) in
    let there : after ≡ written law 0 file = put_room p (omega (arith, size, h)) in
    rw (fits 17 law file h, size, there)

-- ---- whether the file is a law

pub law_refused : (file law : List ℕ) (why : Refusal) (r : Result (Unit {0}) Refusal) → r ≡ Err why → check_answer r ≡ check_of file
    → read_after (Err (Law why)) law ≡ read_by law (law_file file)
unfolding read_by
law_refused file law why r i h = go (law_of file) (sym (ap check_answer i) ∙ h)
  where
    go : (a : Answer tree.Law) → check_answer (Err why) ≡ map_answer (λ _. tt) a → read_after (Err (Law why)) law ≡ read_by law (a >>= (λ _. given file))
    go (refused n) e = cc
    go (given l) e = let z : ◌≡◌ {A = ℕ} 0 1 = cc in absurd (omega arith)

pub law_accepted : (file law : List ℕ) (o : ReadOutcome) (r : Result (Unit {0}) Refusal) → r ≡ Ok tt → check_answer r ≡ check_of file → o ≡ read_by law (given file)
    → o ≡ read_by law (law_file file)
law_accepted file law o r i h e = go (law_of file) (sym (ap check_answer i) ∙ h)
  where
    go : (a : Answer tree.Law) → check_answer (Ok tt) ≡ map_answer (λ _. tt) a → o ≡ read_by law (a >>= (λ _. given file))
    go (refused n) e' = let z : ◌≡◌ {A = ℕ} 0 1 = cc in absurd (omega arith)
    go (given l) e' = e

-- a file over 16,384 bytes is no law
pub file_over : (file law : List ℕ) → 16384 < length file → read_after (Err (Law FileOver)) law ≡ read_by law (law_file file)
unfolding read_by law_of sections_of
file_over file law h = rw (lt-ltb 16384 (length file) h)

-- a file that was put is the first bytes of the buffer
pub file_part : (old after file : List ℕ) (end : ℕ) → Put old 0 file end after → end ≤ length old → take end after ≡ file
unfolding written
file_part old after file end p h =
    let size : end ≡ length file = omega (arith, p.end) in
    rw (put_room p h, size) (take-append_seam file (drop (0 + length file) old))

-- as many first bytes as there are
pub part_size : (end : ℕ) (after old : List ℕ) → end ≤ 16384 → length old ≡ 16384 → length after ≡ length old → end ≡ length (take end after)
part_size end after old h l k = sym (length-take-le end after (omega (arith, h, l, k)))

pub part_small : (end : ℕ) (after : List ℕ) → end ≤ 16384 → length (take end after) ≤ 16384
part_small end after h = omega (arith, h, length-take end after)

-- what tokens say is delivered as a file is
pub tokens_delivered : (old after file law : List ℕ) (end : ℕ) (o : ReadOutcome) → Put old 0 file end after → end ≤ length old
    → o ≡ read_by law (law_file (take end after)) → o ≡ read_by law (law_file file)
tokens_delivered old after file law end o l h e = e ∙ ap (λ (f : List ℕ). read_by law (law_file f)) (file_part old after file end l h)

-- ---- the tokens of a text

-- the tokens that the lexer found, as the first places of its array
pub sliced : (bytes : List ℕ) (n : ℕ) (tokens : List Lexeme) → length tokens ≡ 4096 → Lexes bytes n tokens → (n ≡ length (take n tokens)) × Lexes bytes (length (take n tokens)) (take n tokens)
sliced bytes n tokens e h =
    let size : n ≡ length (take n tokens) = sym (length-take-le n tokens (omega (arith, h.small, e))) in (
      size,
      record {
        pieces = h.pieces;
        found = h.found;
        small = omega (arith, size, h.small);
        holds =
            record {
              count = omega (arith, size, h.holds.count);
              kinded = same (λ x. kind_code x.kind) ∙ h.holds.kinded;
              started = same (λ x. x.start) ∙ h.holds.started;
              ended = same (λ x. x.end) ∙ h.holds.ended;
            };
      },
    )
  where
    same : (f : Lexeme → ℕ) → take (length (take n tokens)) (map f (take n tokens)) ≡ take n (map f tokens)
    same f = take_all (length (take n tokens)) (map f (take n tokens)) (omega (arith, length-map (take n tokens) f)) ∙ sym (take-map f n tokens)

-- a text outside the grammar
pub outside : (bytes law : List ℕ) → phrase_of bytes ≡ none → read_after (Err Outside) law ≡ read_by law (phrase_file bytes (phrase_of bytes))
unfolding read_by
outside bytes law e = rw e

module _ (bytes law : List ℕ) (tokens : List Lexeme) (t : Bool) (h : Lexes bytes (length tokens) tokens) (e : t ≡ accepts_kinds at_text [] (kinds_in tokens)) where
  all : take (length tokens) tokens ≡ tokens
  all = take_all (length tokens) tokens (omega arith)

  taken : t ≡ accepts_kinds at_text [] (kinds_in (take (length tokens) tokens))
  taken = e ∙ ap (λ x. accepts_kinds at_text [] (kinds_in x)) (sym all)

  pub tokens_outside : t ≡ false → read_after (Err Outside) law ≡ read_by law (phrase_file bytes (phrase_of bytes))
  tokens_outside f = outside bytes law (refused_outside h t taken f)

  -- a text of the grammar, by what its tokens say
  pub text_delivered : (o : ReadOutcome) → t ≡ true
      → ((ts : List Placed) → HeldIn tokens ts → Stand bytes ts → o ≡ read_by law (law_file (flat_file bytes ts)))
      → o ≡ read_by law (phrase_file bytes (phrase_of bytes))
  text_delivered o f said =
      let (x, found, same) = taken_phrase h t taken f in
      go x found same
    where
      go : (x : Text) → phrase_of bytes ≡ some x → encode bytes x ≡ flat_file bytes (placed 0 h.pieces) → o ≡ read_by law (phrase_file bytes (phrase_of bytes))
      go x found same = rw (found, same) (said (placed 0 h.pieces) (rw all at (tokens_held h)) (tokens_stand h))

-- by the lexer's answer
pub lexer_outside : (bytes law : List ℕ) (tokens : List Lexeme) → LexedAs bytes None tokens
    → read_after (Err Outside) law ≡ read_by law (phrase_file bytes (phrase_of bytes))
lexer_outside bytes law tokens h = outside bytes law (unlexed bytes h)

-- ---- the text

pub text_over : (bytes law : List ℕ) → 4096 < length bytes → read_after (Err TextOver) law ≡ read_outcome bytes law
unfolding read_outcome text_file read_by
text_over bytes law h = rw (lt-ltb 4096 (length bytes) h)

pub text_read : (bytes law : List ℕ) (o : ReadOutcome) → length bytes ≤ 4096 → o ≡ read_by law (phrase_file bytes (phrase_of bytes)) → o ≡ read_outcome bytes law
unfolding read_outcome text_file
text_read bytes law o h e = rw (le-ltb 4096 (length bytes) h) e
