use Rattle.std.proofs.Common.{refl}
use Rattle.writing.proofs.WholeLaws.{file_put}
use Rattle.writing.proofs.source.Source.put_file.Goals as goal

pub returns : goal.returns
returns c ts h st =
    file_put c.args.self.now.text.now ts refl c.put_word-size.ensures c.put-first.ensures (c.function_section-second.ensures.1 ts h)
    (c.sentence_section-third.ensures.1 ts h st) (c.condition_section-fourth.ensures.1 ts h st) (c.term_section.ensures.1 ts h st)
