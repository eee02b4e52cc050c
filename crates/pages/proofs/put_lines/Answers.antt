-- A heading alone; or the lines of the findings, with the headings between them.
use Rattle.std.proofs.Common.{◌*◌, arith, refl, ◌∙◌}
use mathlib.Core.List.{flatten}
use Rattle.file.specs.Sections.{file_of}
use Rattle.buffers.specs.Code.Text.{Puts}
use Rattle.buffers.proofs.TextLaws.{◌next◌}
use Rattle.pages.specs.Page.{heading_before}
use Rattle.pages.proofs.LineLaws.{heading_few, line_at_length}
use Rattle.pages.proofs.PageLaws.{page_none, begun, gone_on, finished}
use Rattle.pages.proofs.put_lines.Goals as goal

pub returns-then-count-eq0 : goal.returns-then-count-eq0
returns-then-count-eq0 c =
    rw (c.if-count-eq0.true, page_none (file_of c.args.allowed.now.law.bytes.now) c.args.words.now, ← (c.functions-functions.ensures ∙ c.args.allowed.now.law.indexed.words.functions))
    c.put_head.ensures

pub loop-i-init : goal.loop-i-init
loop-i-init c = record {
  short = omega (arith, c.requires.3);
  rest = rw c.requires.3 (begun (file_of c.args.allowed.now.law.bytes.now) c.args.words.now c.args.count c.args.text.now.out.now c.if-count-eq0.false);
  same = refl;
}

pub put_heading_before-requires : goal.put_heading_before-requires
put_heading_before-requires c = (
  omega (arith, c.loop-i-test.true, c.requires.0),
  omega (arith, c.loop-i.invariant.short, c.loop-i-test.true, c.requires.0),
)

pub put_line-requires : goal.put_line-requires
put_line-requires c = (
  omega (arith, c.loop-i-test.true, c.requires.1),
  c.requires.2 c.loop-i.i c.loop-i-test.true,
  omega (
    arith,
    c.loop-i-test.true,
    c.requires.0,
    c.loop-i.invariant.short,
    c.put_heading_before.ensures.put.end,
    heading_few c.functions-functions.result c.loop-i.i,
  ),
)

pub loop-i-preserved : goal.loop-i-preserved
loop-i-preserved c =
    let file = file_of c.args.allowed.now.law.bytes.now in
    let headed : Puts c.loop-i.text c.put_heading_before.new.text (flatten (heading_before file.functions.count c.loop-i.i)) =
    rw (c.functions-functions.ensures ∙ c.args.allowed.now.law.indexed.words.functions) at c.put_heading_before.ensures in
    record {
      short =
          omega (
            arith,
            c.loop-i.invariant.short,
            headed.put.end,
            heading_few file.functions.count c.loop-i.i,
            c.put_line.ensures.put.end,
            line_at_length file c.args.words.now (8 * c.loop-i.i),
          );
      rest =
          gone_on file c.args.words.now c.args.count c.args.text.now.out.now c.loop-i.i c.loop-i.text.at c.put_heading_before.new.text.at c.put_line.new.text.at
          c.loop-i.text.out.now _ _ c.loop-i-test.true c.loop-i.invariant.rest headed.put c.put_line.ensures.put;
      same = (headed next c.put_line.ensures).same ∙ c.loop-i.invariant.same;
    }

pub returns : goal.returns
returns c = record {
  same = c.loop-i.invariant.same;
  put =
      rw c.requires.3
      (finished (file_of c.args.allowed.now.law.bytes.now) c.args.words.now c.args.count c.args.text.now.out.now c.loop-i.i c.loop-i.text.at c.loop-i.text.out.now
      (omega (arith, c.loop-i-test.false)) c.loop-i.invariant.rest);
}
