-- What opened images are known to be: refused as both are read in turn, or both accepted, with the first one's document in the columns.
use mathlib.Core.Path.{◌≡◌, refl, sym, ap, ◌∙◌}
use mathlib.Core.List.{List}
use Prim.Native.Nat.{ℕ}
use lib.ListN.{length}
use Rattle.meaning.specs.Reading.{Reading, Accepted, Refused}
use Rattle.std.specs.Prelude.{Result, Ok, Err}
use Rattle.meaning.specs.declared.Refusal.{Refusal}
use Rattle.meaning.specs.Order.{and_then}
use Rattle.meaning.specs.Nodes.{nodes_of, doc_of, read_nodes}
use Rattle.meaning.specs.Rules.{read_rules}
use Rattle.meaning.proofs.Orders.{contrary, then_accepted}
use Rattle.columns.specs.declared.Columns.{Columns}
use Rattle.columns.specs.Lent.{Fronts}
use Rattle.nodes.specs.Loading.{loaded, tell_loaded}
use Rattle.nodes.specs.Unpacking.{Unpacks, together}
use Rattle.rules.specs.Promises.{RulesPromise}
use Rattle.rules.proofs.Promised.{read_as}
use Rattle.nodes.proofs.Unique.{loaded-unique}
use Rattle.nodes.proofs.Held.{told-refused, told-nodes, refused_image, held-image, size-held, whole-held, front_room}
use Rattle.opening.specs.Opening.{after_rules, Opens}

-- a refusal stays one, whatever is read after it
pub still : {a b : ℕ} (x y z : Reading) → and_then x y ≡ Refused a b → and_then x (and_then y z) ≡ Refused a b
still (Err why) y z e = e
still Accepted (Err why) z e = e
still Accepted Accepted z e = absurd (contrary refl e)

-- the table is read after the nodes
in_turn : (x y : Reading) (m : ℕ) → after_rules (loaded x m) y ≡ loaded (and_then x y) m
in_turn (Err why) y m = refl
in_turn Accepted y m = refl

pub table-told : (rules : List ℕ) {l : Result ℕ Refusal} {n : ℕ} → l ≡ Ok n → (y : Reading) → RulesPromise rules y → {x : Result ℕ Refusal} → x ≡ loaded y n → x ≡ after_rules l (read_rules rules)
table-told rules {n = n} el y p e =
    e ∙ ap (λ (z : Reading). loaded z n) (sym (read_as rules refl p)) ∙ ap (λ (y : Result ℕ Refusal). after_rules y (read_rules rules)) (sym el)

-- the columns of an accepted image, as far as its records go
abbrev pub fronts : {image : List ℕ} {c : Columns} → Unpacks image c → {n : ℕ} → c.loaded ≡ Ok n
    → Fronts n c.kind c.vkind c.name c.parent c.begin c.end c.value c.item
fronts {image} u {n} e =
    let w = whole-held image u e in
    let size = size-held image u e in
    record {
      kind = front_room _ w.tree.kind size;
      vkind = front_room _ w.values_held.vkind size;
      name = front_room _ w.tree.name size;
      parent = front_room _ w.tree.parent size;
      begin = front_room _ w.periods.begin size;
      end = front_room _ w.periods.end size;
      value = front_room _ w.values_held.value size;
      item = front_room _ w.numbers.item size;
      doc = doc_of image;
      whole = w;
    }

module _ {nodes : List ℕ} (rules : List ℕ) {c : Columns} where
  pub opens : Unpacks nodes c → {l : Result ℕ Refusal} → l ≡ after_rules c.loaded (read_rules rules)
      → {x : Columns} → x ≡ together l c.kind c.vkind c.name c.parent c.begin c.end c.value c.item → Opens nodes rules x
  opens u el e =
      let alone : c.loaded ≡ loaded (read_nodes nodes) (length (nodes_of nodes)) = loaded-unique _ _ u.answer in
      rw e (record {
        nodes_alone = c.loaded;
        columns = u;
        answer = ap tell_loaded (el ∙ ap (λ (y : Result ℕ Refusal). after_rules y (read_rules rules)) alone ∙ in_turn (read_nodes nodes) (read_rules rules) (length (nodes_of nodes)));
      })

  module _ (o : Opens nodes rules c) where
    pub refused_both : {a b : ℕ} → c.loaded ≡ Refused a b → and_then (read_nodes nodes) (read_rules rules) ≡ Refused a b
    refused_both r = told-refused (and_then (read_nodes nodes) (read_rules rules)) (length (nodes_of nodes)) o.answer r

    module _ {n : ℕ} (r : c.loaded ≡ Ok n) where
      pub accepted-both : (read_nodes nodes ≡ Accepted) × (read_rules rules ≡ Accepted)
      accepted-both = then_accepted (read_nodes nodes) (read_rules rules) (told-nodes (and_then (read_nodes nodes) (read_rules rules)) (length (nodes_of nodes)) o.answer r).0

      -- so the nodes alone were as many
      pub alone : o.nodes_alone ≡ Ok n
      alone = go o.nodes_alone refl
        where
          go : (x : Result ℕ Refusal) → o.nodes_alone ≡ x → o.nodes_alone ≡ Ok n
          go (Ok m) e = e ∙ rw ((held-image nodes o.columns.answer e).count, sym (told-nodes (and_then (read_nodes nodes) (read_rules rules)) (length (nodes_of nodes)) o.answer r).1)
          go (Err why) e = absurd (contrary accepted-both.0 (refused_image nodes o.columns.answer e))

      abbrev pub open_fronts : Fronts n c.kind c.vkind c.name c.parent c.begin c.end c.value c.item
      open_fronts = fronts o.columns alone

-- what came of both images, known without laying the columns anew
module _ {nodes : List ℕ} (rules : List ℕ) {c : Columns} (u : Unpacks nodes c) {l : Result ℕ Refusal} (el : l ≡ after_rules c.loaded (read_rules rules)) where
  beside : Opens nodes rules (together l c.kind c.vkind c.name c.parent c.begin c.end c.value c.item)
  beside = opens rules u el refl

  pub refused_after : {a b : ℕ} → l ≡ Refused a b → and_then (read_nodes nodes) (read_rules rules) ≡ Refused a b
  refused_after e = refused_both rules beside e

  module _ {n : ℕ} (e : l ≡ Ok n) where
    ok : (read_nodes nodes ≡ Accepted) × (read_rules rules ≡ Accepted)
    ok = accepted-both rules beside e

    count : n ≡ length (nodes_of nodes)
    count = (told-nodes (and_then (read_nodes nodes) (read_rules rules)) (length (nodes_of nodes)) beside.answer e).1

    pub loaded-after : c.loaded ≡ Ok n
    loaded-after =
        let alone : c.loaded ≡ loaded (read_nodes nodes) (length (nodes_of nodes)) = loaded-unique _ _ u.answer in
        alone ∙ rw (ok.0, sym count)

    pub opens_after : Opens nodes rules c
    opens_after = record { nodes_alone = c.loaded; columns = u; answer = rw (loaded-after, ok.0, ok.1, sym count) }
