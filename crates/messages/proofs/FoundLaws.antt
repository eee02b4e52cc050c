-- What each finding of a law says of its subject, by the subject's record: the function that it stands in, and the sentence or the call there.
use Prim.Native.Nat.{ℕ, zero, suc, ◌+◌, ◌*◌, ◌≤◌, ◌<◌}
use mathlib.Core.Bool.{Bool, true, false, ◌&&◌, ◌||◌}
use mathlib.Core.List.Memᴰ
use mathlib.Core.List.{List, [], ◌∷◌, ◌++◌, Memᴰ}
use mathlib.Core.Logic.{◌⊎◌, inl, inr}
use mathlib.Core.Option.{Option, none, some}
use mathlib.Core.Path.{◌≡◌, refl, sym, ap, ◌∙◌}
use native.Mathlib.Omega.{arith}
use lib.ListN.{length}
use lib.Dec.{leb, ltb}
use borrow.Author.Tests.{ltb-false, le-leb, lt-leb}
use Rattle.file.specs.Word.{word_at}
use Rattle.file.specs.Sections.{File}
use Rattle.file.specs.Head.{term_from, term_at}
use Rattle.file.specs.declared.Term.TheVariants.{Call as CallTerm}
use Rattle.law.specs.Tree.{Name, Run, Sentences, no_sentence, sentence, Function, Law}
use Rattle.law.specs.Reading.{function_name, tree_of}
use Rattle.law.specs.Definition.{definition}
use Rattle.law.specs.Code.Index.{Readable}
use Rattle.law.proofs.Functions.{functions_at, tree_functions_lem, functions_end, function_reads}
use Rattle.shapes.specs.Format.{size}
use Rattle.matching.specs.Pattern.{pattern_of}
use Rattle.matching.specs.Match.{when, each}
use Rattle.sentences.specs.Entry.{argument_part, argument_in}
use Rattle.matching.proofs.SameLaws.{false_not_true}
use Rattle.matching.specs.Literal.{InDigits}
use Rattle.matching.proofs.SearchLaws.{in_when, in_each, each_in}
use Rattle.formats.specs.Infer.{Formats}
use Rattle.formats.specs.Code.Slots.{file_names, position}
use Rattle.formats.proofs.EntryLaws.{name_of}
use Rattle.formats.proofs.RoundLaws.{EachFunction}
use Rattle.formats.proofs.SlotLaws.{function_placed}
use Rattle.lints.specs.Finding.{Failure, Claim, dead, by_literals, fails, open_pattern, Remark, Finding}
use Rattle.lints.specs.Findings.{findings_of}
use Rattle.lints.specs.Calls.{Call, callee, sentence_calls}
use Rattle.lints.specs.Dead.{Earlier, sentence_blocks, dead_by, dead_after, earliest, unconditional, own_dead, block_dead, dead_remarks, dead_findings}
use Rattle.lints.specs.Recognition.{compared, compared_with, passed, some_over, arguments_over, recognition_findings}
use Rattle.lints.specs.Builtin.{failure, domain_in, builtins, looked_at, failed, builtin_on, builtin_remarks, builtin_findings}
use Rattle.lints.specs.Open.{e_occurrences, open_in, open_remarks, open_findings}
use Rattle.lints.specs.Code.Records.{formats_in, call_at}
use Rattle.lints.proofs.Everywhere.{each_function_in, EachRecord}
use Rattle.lints.proofs.Records.{bound, InBlock, OfCalls, EverySentenceAt, functions_every, functions_below}
use Rattle.lints.proofs.CallsIn.{either, sentence_call, sentence_block}
use Rattle.lints.proofs.Defined.{definition_in}
use Rattle.lints.proofs.Owners.{owned}
use Rattle.lints.proofs.Listed.{subject_record, Remarked, finding_remarked, dead_remark, Judged, apart, literally, Recognition, recognition_finding, by_lint}
use Rattle.messages.specs.Code.Spoken.{CallHere, ComparedHere, in_block, apart_claim}

-- what is said of a subject, by its record
pub data Said (file : File) (limit : ℕ) (store : List ℕ) (claim : Claim) (subject : ℕ) : Type 0 where
  of_dead : (later earlier : ℕ) → claim ≡ dead (in_block file subject) later earlier → Said file limit store claim subject
  of_formats : ComparedHere file limit store subject → claim ≡ apart_claim file limit store subject → Said file limit store claim subject
  of_literals : CallHere file subject → claim ≡ by_literals (call_at file subject).name → Said file limit store claim subject
  of_fails : CallHere file subject → (why : Failure) → claim ≡ fails (call_at file subject).name why → Said file limit store claim subject
  of_open : (n : ℕ) → claim ≡ open_pattern n → Said file limit store claim subject

-- the function that a finding is of, and what it says
pub record Told (file : File) (limit : ℕ) (store : List ℕ) (x : Finding) : Type 0 where
  pub position : x.position < file.functions.count
  pub owner : x.owner ≡ function_name file x.position
  pub said : Said file limit store x.claim x.subject.at

-- ---- a call's record

-- the words of a call's record
call_words : (kind a b x y : ℕ) → term_from kind a b ≡ CallTerm x y → (kind ≡ 7) × (x ≡ a) × (y ≡ b)
unfolding term_from
call_words zero a b x y e = let z : ◌≡◌ {A = ℕ} 0 1 = cc in absurd (omega arith)
call_words (suc zero) a b x y e = let z : ◌≡◌ {A = ℕ} 0 1 = cc in absurd (omega arith)
call_words (suc (suc zero)) a b x y e = let z : ◌≡◌ {A = ℕ} 0 1 = cc in absurd (omega arith)
call_words (suc (suc (suc zero))) a b x y e = let z : ◌≡◌ {A = ℕ} 0 1 = cc in absurd (omega arith)
call_words (suc (suc (suc (suc zero)))) a b x y e = let z : ◌≡◌ {A = ℕ} 0 1 = cc in absurd (omega arith)
call_words (suc (suc (suc (suc (suc zero))))) a b x y e = let z : ◌≡◌ {A = ℕ} 0 1 = cc in absurd (omega arith)
call_words (suc (suc (suc (suc (suc (suc zero)))))) a b x y e = let z : ◌≡◌ {A = ℕ} 0 1 = cc in absurd (omega arith)
call_words (suc (suc (suc (suc (suc (suc (suc zero))))))) a b x y e = (refl, cc, cc)
call_words (suc (suc (suc (suc (suc (suc (suc (suc kind)))))))) a b x y e = let z : ◌≡◌ {A = ℕ} 0 1 = cc in absurd (omega arith)

module _ (file : File) where
  -- a call is the one at its record
  abbrev IsHere : ℕ → Name → Run → Type 0
  IsHere t f q = CallHere file t × (f ≡ (call_at file t).name) × (q ≡ (call_at file t).argument)

  call_here : OfCalls file IsHere
  unfolding term_at argument_in argument_part
  call_here t a b inside e part =
      let (kind, start, len) =
      call_words (word_at file.terms.records (24 * t)) (word_at file.terms.records (24 * t + 4)) (word_at file.terms.records (24 * t + 8)) a b e in
      (record { inside = inside; kind = kind; argument = part }, rw (start, len), refl)

-- ---- what is said of a sentence

-- a remark on a dead sentence
dead_form : (inside : Bool) (earlier : List Earlier) (n : ℕ) (ss : Sentences) (r : Remark) → Memᴰ r (dead_after inside [] earlier n ss)
    → (later first : ℕ) × (r.claim ≡ dead inside later first)
unfolding dead_after
dead_form inside earlier n no_sentence r i = elim i [ ]
dead_form inside earlier n (sentence m p cs q ss) r i =
    go (earliest [] earlier (pattern_of p)) (Memᴰ.append_cases (dead_by inside m n (earliest [] earlier (pattern_of p))) i)
    (dead_form inside (earlier ++ unconditional cs n p) (suc n) ss r)
  where
    go : (o : Option ℕ) → Memᴰ r (dead_by inside m n o) ⊎ Memᴰ r (dead_after inside [] (earlier ++ unconditional cs n p) (suc n) ss)
        → (Memᴰ r (dead_after inside [] (earlier ++ unconditional cs n p) (suc n) ss) → (later first : ℕ) × (r.claim ≡ dead inside later first))
        → (later first : ℕ) × (r.claim ≡ dead inside later first)
    go none (inl x) below = elim x [ ]
    go (some k) (inl (Memᴰ.head e)) below = (n, k, ap (λ y. y.claim) e)
    go (some k) (inl (Memᴰ.tail x)) below = elim x [ ]
    go o (inr j) below = below j

-- a remark on an open pattern
open_form : (ss : Sentences) (r : Remark) → Memᴰ r (open_in ss) → (n : ℕ) × (r.claim ≡ open_pattern n)
unfolding open_in
open_form no_sentence r i = elim i [ ]
open_form (sentence m p cs q ss) r i =
    either (when (leb 2 (e_occurrences p)) here) (open_in ss) i (λ j. one (in_when (leb 2 (e_occurrences p)) here j).1) (λ j. open_form ss r j)
  where
    here : List Remark
    here = record { subject = m; claim = open_pattern (e_occurrences p) } ∷ []

    one : Memᴰ r here → (n : ℕ) × (r.claim ≡ open_pattern n)
    one (Memᴰ.head e) = (e_occurrences p, ap (λ y. y.claim) e)
    one (Memᴰ.tail x) = elim x [ ]

-- a remark on a call of a builtin
fails_form : (c : Call) (o : Option Failure) (r : Remark) → Memᴰ r (failed c o)
    → (r.subject ≡ c.mark) × ((why : Failure) × (r.claim ≡ fails c.name why))
fails_form c none r x = elim x [ ]
fails_form c (some why) r (Memᴰ.head e) = (ap (λ y. y.subject) e, (why, ap (λ y. y.claim) e))
fails_form c (some why) r (Memᴰ.tail x) = elim x [ ]

-- ---- calls that are compared

-- none of them is over the limit
not_over : (limit : ℕ) (law : Law) (formats : Formats) (cs : List Call) → some_over limit law formats cs ≡ false
    → (c : Call) → Memᴰ c cs → compared law c ≡ true → size (passed formats c) ≤ limit
unfolding some_over
not_over limit law formats [] h c m is = elim m [ ]
not_over limit law formats (d ∷ cs) h c m is =
    let (here, rest) = neither (compared law d && ltb limit (size (passed formats d))) (some_over limit law formats cs) h in
    go m here (λ i. not_over limit law formats cs rest c i is)
  where
    neither : (a b : Bool) → (a || b) ≡ false → (a ≡ false) × (b ≡ false)
    neither true b h = absurd (false_not_true (sym h))
    neither false b h = (refl, h)

    second : (a b : Bool) → (a && b) ≡ false → a ≡ true → b ≡ false
    second true b h e = h
    second false b h e = absurd (false_not_true e)

    go : Memᴰ c (d ∷ cs) → compared law d && ltb limit (size (passed formats d)) ≡ false
        → (Memᴰ c cs → size (passed formats c) ≤ limit) → size (passed formats c) ≤ limit
    go (Memᴰ.head e) here later =
        ltb-false limit (size (passed formats c)) (second (compared law c) (ltb limit (size (passed formats c))) (rw e here) is)
    go (Memᴰ.tail i) here later = later i

-- a call that is compared is one of a function that is defined
compared_defined : (law : Law) (c : Call) → compared law c ≡ true → (ss : Sentences) × (definition law (callee c) ≡ some ss)
unfolding compared
compared_defined law c h = go (definition law (callee c)) refl h
  where
    go : (o : Option Sentences) → definition law (callee c) ≡ o → compared_with o c.argument ≡ true
        → (ss : Sentences) × (definition law (callee c) ≡ some ss)
    go none e h = absurd (false_not_true h)
    go (some ss) e h = (ss, e)

-- ---- findings

module _ (file : File) (readable : Readable file) where
  placed_from : (left f : ℕ) → f + left ≡ file.functions.count
      → EachFunction (λ d. position (file_names file) (name_of d) < length (file_names file)) (functions_at file f)
  placed_from zero f e = rw (functions_end file f (omega arith)) tt
  placed_from (suc left) f e = rw (function_reads file f (omega arith)) (function_placed file f (omega arith), placed_from left (suc f) (omega arith))

  -- what holds of every function from the first on
  all_functions : (P : Function → Type 0) → ((left f : ℕ) → f + left ≡ file.functions.count → EachFunction P (functions_at file f))
      → (d : Function) → Memᴰ d (tree_of file) → P d
  all_functions P h = each_function_in P (tree_of file) (rw (tree_functions_lem file) (h file.functions.count 0 (omega arith)))

  -- the name of a function that is defined has a place
  defined_placed : (n : List ℕ) (ss : Sentences) → definition (tree_of file) n ≡ some ss → position (file_names file) n < length (file_names file)
  defined_placed n ss e =
      let (d, in_law, name, same) = definition_in (tree_of file) n ss e in
      rw name at (all_functions (λ d. position (file_names file) (name_of d) < length (file_names file)) placed_from d in_law)

  -- the records of a function's own sentences
  own_below : (d : Function) → Memᴰ d (tree_of file) → EachRecord (λ i. i < bound file) d.sentences
  own_below = all_functions (λ d. EachRecord (λ i. i < bound file) d.sentences) (functions_below file readable)

  -- what holds everywhere in a function
  every_in : (d : Function) → Memᴰ d (tree_of file) → EverySentenceAt file (IsHere file) d.sentences
  every_in = all_functions (λ d. EverySentenceAt file (IsHere file) d.sentences) (functions_every file readable (IsHere file) (call_here file))

  -- a call of a function is the one at its record
  call_is : (d : Function) → Memᴰ d (tree_of file) → (c : Call) → Memᴰ c (sentence_calls d.sentences)
      → IsHere file c.mark.at c.name c.argument
  call_is d i c m = (sentence_call InDigits (IsHere file) (InBlock file) d.sentences (every_in d i) c m).0

  module _ (limit : ℕ) (store : List ℕ) (x : Finding) where
    abbrev Saying : Type 0
    Saying = Said file limit store x.claim x.subject.at

    dead_said : Memᴰ x (dead_findings (tree_of file)) → Saying
    unfolding dead_findings
    dead_said m =
        let about = finding_remarked dead_remarks 0 (tree_of file) x m in
        go about (dead_remark about.function about.said about.in_remarks)
      where
        go : (about : Remarked dead_remarks (tree_of file) x)
            → Memᴰ about.said (own_dead about.function.sentences)
            ⊎ ((ss : Sentences) × Memᴰ ss (sentence_blocks about.function.sentences) × Memᴰ about.said (block_dead ss))
            → Saying
        go about (inl i) =
            let ss : Sentences = about.function.sentences in
            let (later, first, form) = dead_form false [] 1 ss about.said i in
            let below : about.said.subject.at < bound file =
            subject_record (λ i. i < bound file) false [] 1 ss (own_below about.function about.in_law) about.said i in
            of_dead later first (rw (about.subject, lt-leb (bound file) about.said.subject.at below) (about.claim ∙ form))
        go about (inr (ss, j, i)) =
            let (later, first, form) = dead_form true [] 1 ss about.said i in
            let records = sentence_block InDigits (IsHere file) (InBlock file) about.function.sentences
            (every_in about.function about.in_law) ss j in
            let above : bound file ≤ about.said.subject.at = subject_record (InBlock file) true [] 1 ss records about.said i in
            of_dead later first (rw (about.subject, le-leb (bound file) about.said.subject.at above) (about.claim ∙ form))

    recognition_said : arguments_over limit (tree_of file) (formats_in file limit store) ≡ false
        → Memᴰ x (recognition_findings (tree_of file) (formats_in file limit store)) → Saying
    unfolding arguments_over
    recognition_said within m =
        let about = recognition_finding (tree_of file) (formats_in file limit store) x m in
        go about (call_is about.function about.in_law about.call about.in_calls) about.is_judged
      where
        go : (about : Recognition (tree_of file) (formats_in file limit store) x)
            → IsHere file about.call.mark.at about.call.name about.call.argument
            → Judged (formats_in file limit store) about.call about.said → Saying
        go about (here, name, argument) (apart claim disjoint) =
            let (ss, defined) = compared_defined (tree_of file) about.call about.is_compared in
            let fits = not_over limit (tree_of file) (formats_in file limit store) (each (λ (f : Function). sentence_calls f.sentences) (tree_of file)) within
            about.call (each_in (λ (f : Function). sentence_calls f.sentences) about.in_law about.in_calls) about.is_compared in
            let placed = defined_placed (callee about.call) ss defined in
            rw about.subject
            (of_formats (record { call = here; placed = rw name at placed; fits = rw argument at fits })
            (about.claim ∙ (claim ∙ rw (name, argument))))
        go about (here, name, argument) (literally claim literal) =
            rw about.subject (of_literals here (about.claim ∙ (claim ∙ rw name)))

    builtin_said : Memᴰ x (builtin_findings (tree_of file)) → Saying
    unfolding builtin_findings builtin_remarks builtin_on
    builtin_said m =
        let about = finding_remarked (builtin_remarks (tree_of file)) 0 (tree_of file) x m in
        let (c, i, j) = in_each (builtin_on (tree_of file)) (sentence_calls about.function.sentences) about.in_remarks in
        let found = failure (domain_in builtins (callee c)) c.argument in
        let (subject, (why, form)) =
        fails_form c found about.said (in_when (looked_at (definition (tree_of file) (callee c))) (failed c found) j).1 in
        go c why (call_is about.function about.in_law c i) (about.subject ∙ subject) (about.claim ∙ form)
      where
        go : (c : Call) (why : Failure) → IsHere file c.mark.at c.name c.argument → x.subject ≡ c.mark
            → x.claim ≡ fails c.name why → Saying
        go c why (here, name, argument) subject claim = rw subject (of_fails here why (claim ∙ rw name))

    open_said : Memᴰ x (open_findings (tree_of file)) → Saying
    unfolding open_findings open_remarks
    open_said m =
        let about = finding_remarked open_remarks 0 (tree_of file) x m in
        let (n, form) = open_form about.function.sentences about.said about.in_remarks in
        of_open n (about.claim ∙ form)

    -- every finding says something of the record that is its subject
    pub told : arguments_over limit (tree_of file) (formats_in file limit store) ≡ false
        → Memᴰ x (findings_of (tree_of file) (formats_in file limit store)) → Told file limit store x
    told within m =
        let (position, owner) = owned file x (formats_in file limit store) m in
        record {
          position = position;
          owner = owner;
          said = by_lint (tree_of file) (formats_in file limit store) x m dead_said (recognition_said within) builtin_said open_said;
        }
