use Rattle.std.proofs.Common.{◌≡◌, ◌++◌, drop}
use Rattle.formats.specs.Store.{store_size}
use Rattle.formats.specs.Code.Entries.{start_of}
use Rattle.formats.proofs.call.start_store.Given as goal

abbrev pub invariant-loop-k : goal.invariant-loop-k
invariant-loop-k l = l.store ≡ start_of l.limit l.k ++ drop (store_size l.limit) l.fn.store
