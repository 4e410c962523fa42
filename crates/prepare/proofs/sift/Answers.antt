-- `prepare::sift` meets its contract: below i each record has what is left below it, its row and its mark.
use mathlib.Core.Path.{refl}
use native.Mathlib.Omega.{arith}
use borrow.Author.Rules.{rules}
use Rattle.prepare.proofs.Owning.{sifting_none, sifting_on, sifting_all}
use Rattle.prepare.proofs.sift.Goals as goal

pub loop-i-init : goal.loop-i-init
loop-i-init c = λ doc t v. sifting_none doc _ _ _ _

pub role_of-role-requires : goal.role_of-role-requires
role_of-role-requires c =
    let p = c.requires in
    let g = p.4 in (
      record {
        doc = g.0;
        tree = g.1;
        judgeable = g.3;
        here = omega arith;
        room = search rules;
        short = p.0;
        few = λ w h. ((c.loop-i.invariant g.0 g.1 g.2).passed.entry w h).most;
      },
      omega (arith, g.1.kind.size, g.2.vkind.size),
      omega (arith, g.1.kind.size, g.2.value.size),
    )

pub loop-i-preserved : goal.loop-i-preserved
loop-i-preserved c =
    let s = c.loop-i in
    λ doc t v. let f = s.invariant doc t v in sifting_on doc _ f (search rules) (search rules) (search rules) _ _ _ (c.role_of-role.ensures doc t v refl f.passed.entry)

pub returns : goal.returns
returns c =
    let s = c.loop-i in
    λ doc t v. let n = t.kind.size in sifting_all doc _ _ _ _ _ (s.invariant doc t v) (omega arith) (omega arith) (omega arith) (omega arith)
