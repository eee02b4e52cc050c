-- What the code hands from section to section, as the definitions of specs/Sections.antt have it.
use Rattle.std.specs.Prelude.{ℕ, ◌+◌, ◌*◌, ◌-◌, ◌≤◌, List, length}
use Rattle.file.specs.Sections.{Section, File}
use Rattle.file.specs.declared.Sections.{Sections}
use Rattle.file.specs.declared.Counted.{Counted}

-- a section's count, and where in the law the bytes after it begin
abbrev pub counted_of : List ℕ → Section × List ℕ → Counted
counted_of law found = record { count = found.0.count; end = length law - length found.1 }

-- the five counts of a file
abbrev pub counts_of : File → Sections
counts_of file = record {
  text = file.text.count;
  functions = file.functions.count;
  sentences = file.sentences.count;
  conditions = file.conditions.count;
  terms = file.terms.count;
}

-- the limits of the counts
abbrev pub Limits : Sections → Type 0
Limits s = (s.text ≤ 4096) × (s.functions ≤ 64) × (s.sentences ≤ 128) × (s.conditions ≤ 128) × (s.terms ≤ 512)

-- the length of a file, by the counts of its sections
abbrev pub file_length : Sections → ℕ
file_length s = 20 + s.text + 20 * s.functions + 20 * s.sentences + 16 * s.conditions + 24 * s.terms
