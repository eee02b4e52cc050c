-- One law for each refusal (proofs/Verdict.antt), with the tests that led there.
use mathlib.Core.Path.{sym, ◌∙◌}
use Rattle.file.proofs.SectionLaws.{sections_records}
use Rattle.file.specs.Sections.{file_of}
use Rattle.law.proofs.Verdict as verdict
use Rattle.law.proofs.check_placed.Goals as goal

pub returns-then-not-runs_fit : goal.returns-then-not-runs_fit
returns-then-not-runs_fit c =
    let bytes = c.args.law.now.bytes.now in
    let sections = c.args.law.now.indexed.sections in
    let fields = c.requires in
    sym (verdict.runs_refused bytes sections fields c.args.law.now.indexed.used (sym c.runs_fit.ensures ∙ c.if-not-runs_fit.true))

pub returns-then-not-blocks_allowed : goal.returns-then-not-blocks_allowed
returns-then-not-blocks_allowed c =
    let bytes = c.args.law.now.bytes.now in
    let sections = c.args.law.now.indexed.sections in
    let fields = c.requires in
    let runs = verdict.runs_all bytes sections fields c.args.law.now.indexed.used (sym c.runs_fit.ensures ∙ c.if-not-runs_fit.false) in
    sym (verdict.blocks_refused bytes sections fields runs (sym c.blocks_allowed.ensures ∙ c.if-not-blocks_allowed.true))

pub depth_allowed-requires : goal.depth_allowed-requires
depth_allowed-requires c =
    let bytes = c.args.law.now.bytes.now in
    let sections = c.args.law.now.indexed.sections in
    let fields = c.requires in
    let runs = verdict.runs_all bytes sections fields c.args.law.now.indexed.used (sym c.runs_fit.ensures ∙ c.if-not-runs_fit.false) in
    let blocks = sym c.blocks_allowed.ensures ∙ c.if-not-blocks_allowed.false in
    let whole = (sections_records bytes (file_of bytes) sections).4 in
    record { whole = whole; fields = fields; runs = runs; blocks = blocks }

pub returns-then-not-depth_allowed : goal.returns-then-not-depth_allowed
returns-then-not-depth_allowed c =
    let bytes = c.args.law.now.bytes.now in
    let sections = c.args.law.now.indexed.sections in
    let fields = c.requires in
    let runs = verdict.runs_all bytes sections fields c.args.law.now.indexed.used (sym c.runs_fit.ensures ∙ c.if-not-runs_fit.false) in
    let blocks = sym c.blocks_allowed.ensures ∙ c.if-not-blocks_allowed.false in
    sym (verdict.depth_refused bytes sections fields runs blocks (sym c.depth_allowed.ensures ∙ c.if-not-depth_allowed.true))

pub returns-then-not-patterns_allowed : goal.returns-then-not-patterns_allowed
returns-then-not-patterns_allowed c =
    let bytes = c.args.law.now.bytes.now in
    let sections = c.args.law.now.indexed.sections in
    let fields = c.requires in
    let runs = verdict.runs_all bytes sections fields c.args.law.now.indexed.used (sym c.runs_fit.ensures ∙ c.if-not-runs_fit.false) in
    let blocks = sym c.blocks_allowed.ensures ∙ c.if-not-blocks_allowed.false in
    let depth = sym c.depth_allowed.ensures ∙ c.if-not-depth_allowed.false in
    sym (verdict.patterns_refused bytes sections fields runs blocks depth (sym c.patterns_allowed.ensures ∙ c.if-not-patterns_allowed.true))

pub returns : goal.returns
returns c =
    let bytes = c.args.law.now.bytes.now in
    let sections = c.args.law.now.indexed.sections in
    let fields = c.requires in
    let runs = verdict.runs_all bytes sections fields c.args.law.now.indexed.used (sym c.runs_fit.ensures ∙ c.if-not-runs_fit.false) in
    let blocks = sym c.blocks_allowed.ensures ∙ c.if-not-blocks_allowed.false in
    let depth = sym c.depth_allowed.ensures ∙ c.if-not-depth_allowed.false in
    sym (verdict.accepted bytes sections fields runs blocks depth (sym c.patterns_allowed.ensures ∙ c.if-not-patterns_allowed.false))
