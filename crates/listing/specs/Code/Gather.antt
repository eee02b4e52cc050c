-- What the steps of the calls promise.
use Rattle.std.specs.Prelude.{ℕ, ◌*◌, ◌≤◌, ◌<◌, Bool, true, false, ◌&&◌, List, ◌++◌, ◌≡◌, length, take, drop, replicate, eqb, Result, Ok, Err}
use Rattle.file.specs.Answer.{Answer, refused, given}
use Rattle.file.specs.Sections.{File, file_of}
use Rattle.file.specs.Code.Counts.{counts_of}
use Rattle.file.specs.declared.Sections.{Sections}
use Rattle.law.specs.Tree.{Law}
use Rattle.law.specs.Reading.{tree_of}
use Rattle.law.specs.Code.Index.{Indexed}
use Rattle.law.specs.Code.Accepted.{Accepted}
use Rattle.formats.specs.Infer.{Inferred, infer}
use Rattle.formats.specs.declared.Inferred as code
use Rattle.formats.specs.Store.{store_size, store_words}
use Rattle.buffers.specs.Written.{written}
use Rattle.lints.specs.Finding.{Finding}
use Rattle.lints.specs.Recognition.{arguments_over}
use Rattle.lints.specs.Levels.{Settings, shown, listing_words}
use Rattle.lints.specs.Findings.{findings_of, Listing, listing}
use Rattle.lints.specs.Code.Records.{formats_in}
use Rattle.findings.specs.Code.Events as events
use Rattle.findings.specs.Code.All.{all_events}
use Rattle.listing.specs.declared.Turned.{Turned}
use Rattle.listing.specs.declared.Turned.TheVariants.{Shapes, Findings}
use Rattle.listing.specs.declared.Listed.{Listed}
use Rattle.listing.specs.Outcome.{turned_number, front, store_after}

-- ---- the front

-- is there no function, sentence, condition and term?
abbrev pub no_records : Sections → Bool
no_records s = eqb s.functions 0 && eqb s.sentences 0 && eqb s.conditions 0 && eqb s.terms 0

-- was a file given that has none of these?
abbrev pub empty_file : Answer File → Bool
empty_file (refused n) = false
empty_file (given file) = no_records (counts_of file)

-- an accepted law with its index, and a store that is long enough
pub record Prepares (limit : ℕ) (bytes index store : List ℕ) : Type 0 where
  pub indexed : Indexed bytes index
  pub accepted : Accepted bytes
  pub small : limit ≤ 64
  pub room : store_size limit ≤ length store

-- a refusal, or such a law
abbrev pub FrontIs : ℕ → Settings → List ℕ → List ℕ → Result (Unit {0}) Turned → List ℕ → Type 0
FrontIs limit settings bytes store (Err why) index = front limit settings bytes store ≡ refused (turned_number why)
FrontIs limit settings bytes store (Ok done) index =
    (front limit settings bytes store ≡ given (tree_of (file_of bytes))) × Prepares limit bytes index store

-- the index that the front leaves, by whether the settings are allowed: as it was where they are not, zeros where the file is refused, and else the law's own
abbrev pub IndexLeft : Bool → Answer Law → List ℕ → List ℕ → List ℕ → Type 0
IndexLeft false law bytes before index = index ≡ before
IndexLeft true (refused n) bytes before index = index ≡ replicate 972 0
IndexLeft true (given law) bytes before index = Indexed bytes index

-- ---- formats in the store, and findings in a buffer

-- findings are counted where there is room for the words of all of them, and written where the buffer has place for them
pub record Fitted (settings : Settings) (room : ℕ) (l : Listing) (before after : List ℕ) (r : Result Listed Turned) : Type 0 where
  pub counted : 8 * length l.findings ≤ room → r ≡ Ok (record { count = length l.findings; rounds = l.inferred.rounds; settled = l.inferred.settled })
  pub placed : 8 * length l.findings ≤ room → 8 * length l.findings ≤ length before → after ≡ written before 0 (listing_words settings l.findings)
  pub over : room < 8 * length l.findings → r ≡ Err Findings

-- a store that inference has filled
pub record StoreFilled (limit : ℕ) (file : File) (store : List ℕ) (i : code.Inferred) : Type 0 where
  pub made : Inferred
  pub inferred : infer limit (tree_of file) ≡ given made
  pub words : store ≡ store_words limit made ++ drop (store_size limit) store
  pub ran : (i.rounds ≡ made.rounds) × (i.settled ≡ made.settled)

-- by what the law comes to; the store is filled, or zero with refusal 10
abbrev pub GatheredIs : Settings → ℕ → Answer Listing → List ℕ → List ℕ → Result Listed Turned → Type 0
GatheredIs settings room (refused n) before after r = (n ≡ 10) × (r ≡ Err Shapes)
GatheredIs settings room (given l) before after r = Fitted settings room l before after r

-- the buffer after the lints went through a law; as it was where the formats are refused
abbrev pub buffer_after : ℕ → Settings → ℕ → Law → List ℕ → Answer Inferred → List ℕ
buffer_after limit settings room law start (refused n) = start
buffer_after limit settings room law start (given i) = (events.collect room (events.sink_of (events.Upto 0) start) (all_events law i.formats settings room limit)).words

pub record GatherIs (limit : ℕ) (settings : Settings) (room : ℕ) (bytes before after start end : List ℕ) (r : Result Listed Turned) : Type 0 where
  pub store : after ≡ store_after limit before (listing limit settings (tree_of (file_of bytes)))
  pub gathered : GatheredIs settings room (listing limit settings (tree_of (file_of bytes))) start end r
  pub buffer : end ≡ buffer_after limit settings room (tree_of (file_of bytes)) start (infer limit (tree_of (file_of bytes)))

-- ---- findings that were gathered

-- the findings that settings show, by the formats of a store
abbrev pub shown_in : ℕ → Settings → List ℕ → List ℕ → List Finding
shown_in limit settings bytes store = shown settings (findings_of (tree_of (file_of bytes)) (formats_in (file_of bytes) limit store))

-- they were counted, and stand in a buffer where they have place there
pub record Collected (limit : ℕ) (settings : Settings) (bytes store own : List ℕ) (count : ℕ) : Type 0 where
  pub within : arguments_over limit (tree_of (file_of bytes)) (formats_in (file_of bytes) limit store) ≡ false
  pub counted : count ≡ length (shown_in limit settings bytes store)
  pub placed : 8 * count ≤ length own → take (8 * count) own ≡ listing_words settings (shown_in limit settings bytes store)
