-- What a VAR names is a node, so that its number is not cut.
use Rattle.std.proofs.Common.{arith}
use Rattle.rules.proofs.GuardLaws.{scoped-is}
use Rattle.rules.proofs.ScopedTree.binder.Goals as goal

pub returns : goal.returns
returns c h v =
    let z = c.args.self in
    let n = ((scoped-is _ _ _).0 (z.scoped _ h v)).0 in
    let e = c.binder.ensures (omega (arith, n, z.tree.formed.few)) in
    (e, rw e n)
