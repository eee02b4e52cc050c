-- What is still to be put makes the page, and what was put is not long.
use Rattle.std.proofs.Common.{◌≡◌, ◌*◌, ◌≤◌}
use Rattle.file.specs.Sections.{file_of}
use Rattle.pages.proofs.PageLaws.{ToPut}
use Rattle.pages.proofs.put_lines.Given as goal

abbrev pub invariant-loop-i : goal.invariant-loop-i
invariant-loop-i l = record {
  short : l.text.at ≤ 146 * l.i;
  rest : ToPut (file_of l.allowed.law.bytes.now) l.words l.count l.fn.text.out.now l.i l.text.out.now l.text.at;
  same : l.text.out.ghost_name ≡ l.fn.text.out.ghost_name;
}
