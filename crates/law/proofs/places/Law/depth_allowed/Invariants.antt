-- The depth of the law is within the bound exactly when that of the functions from f on is.
use Rattle.std.proofs.Common.{◌≡◌, leb}
use Rattle.file.specs.Sections.{file_of}
use Rattle.law.specs.Reading.{tree_of}
use Rattle.law.specs.Depth.{depth_of}
use Rattle.law.proofs.DepthSteps.{functions_within}
use Rattle.law.proofs.places.Law.depth_allowed.Given as goal

abbrev pub invariant-loop-f : goal.invariant-loop-f
invariant-loop-f l =
    let file = file_of l.self.bytes.now in
    leb (depth_of (tree_of file)) 32 ≡ functions_within file l.f
