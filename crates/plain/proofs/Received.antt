-- Opened images are read into columns such as the plain engine asks for; and the ways out of its `verdict`.
use mathlib.Core.Path.{◌≡◌, refl, sym, ap, ◌∙◌, subst}
use mathlib.Core.List.{List}
use Prim.Native.Nat.{ℕ, ◌-◌, ◌≤◌}
use lib.ListN.{length, take}
use Rattle.std.specs.Prelude.{Ok}
use Rattle.meaning.specs.Reading.{Refused, Accepted}
use Rattle.meaning.specs.Order.{in_order}
use Rattle.meaning.specs.Block.{node_form, image_tests}
use Rattle.meaning.specs.Document.{Doc}
use Rattle.meaning.specs.Nodes.{doc_of, accept, read_nodes}
use Rattle.meaning.specs.Rules.{read_rules}
use Rattle.meaning.specs.Answer.{read_changes, tell_verdict}
use Rattle.meaning.proofs.Orders.{then_accepted}
use Rattle.meaning.proofs.Sequenced.{sequenced-refused}
use Rattle.columns.specs.Lent.{Lends, Periods, Fronts, AllOf}
use Rattle.columns.specs.Judgeable.{Judgeable}
use Rattle.columns.specs.declared.Columns.{Columns}
use Rattle.columns.specs.declared.Records.{Records}
use Rattle.nodes.specs.Unpacking.{Unpacks}
use Rattle.nodes.proofs.Held.{held-image}
use Rattle.descent.specs.Descent.{Single}
use Rattle.descent.proofs.Linking.{single}
use Rattle.opening.specs.Opening.{Opens}
use Rattle.opening.specs.Promises.{SequencedPromise}
use Rattle.opening.proofs.Opens.{fronts, accepted-both, open_fronts}
use Rattle.plain.specs.Laid.{Laid, Read}

document-accepted : (nodes : List ℕ) → read_nodes nodes ≡ Accepted → accept (doc_of nodes) ≡ Accepted
unfolding read_nodes
document-accepted nodes e = (then_accepted (in_order (image_tests node_form nodes)) (accept (doc_of nodes)) e).1

-- the document of accepted images in the fronts of columns that are lent together
pub read-fronts : {nodes rules : List ℕ} {n : ℕ} {r : Records} → read_nodes nodes ≡ Accepted → read_rules rules ≡ Accepted
    → (f : Fronts n r.kind.now r.vkind.now r.name.now r.parent.now r.begin.now r.end.now r.value.now r.item.now) → f.doc ≡ doc_of nodes → Read nodes rules n r
read-fronts {nodes} {n = n} {r} a t f e =
    let w = f.whole in
    let laid : Laid f.doc (take (n - 0) r.kind.now) (take (n - 0) r.vkind.now) (take (n - 0) r.name.now) (take (n - 0) r.parent.now) (take (n - 0) r.begin.now) (take (n - 0) r.end.now) (take (n - 0) r.value.now)
    = record { tree = w.tree; values_held = w.values_held; periods = w.periods; judgeable = w.judgeable; single = single f.doc (ap accept e ∙ document-accepted nodes a) } in
    record {
      accepted = a;
      table = t;
      kind = f.kind;
      vkind = f.vkind;
      name = f.name;
      parent = f.parent;
      begin = f.begin;
      end = f.end;
      value = f.value;
      laid = subst (λ (doc : Doc). Laid doc (take (n - 0) r.kind.now) (take (n - 0) r.vkind.now) (take (n - 0) r.name.now) (take (n - 0) r.parent.now) (take (n - 0) r.begin.now) (take (n - 0) r.end.now) (take (n - 0) r.value.now)) e laid;
    }

-- columns that are lent whole have the fronts of those that are owned
lent-fronts : {n : ℕ} {c : Columns} {r : Records} → AllOf c r → (f : Fronts n c.kind c.vkind c.name c.parent c.begin c.end c.value c.item)
    → ((g : Fronts n r.kind.now r.vkind.now r.name.now r.parent.now r.begin.now r.end.now r.value.now r.item.now) × (g.doc ≡ f.doc))
lent-fronts p f = rw (p.kind, p.vkind, p.name, p.parent, p.begin, p.end, p.value, p.item) (f, refl)

pub opened-read : {nodes : List ℕ} (rules : List ℕ) {c : Columns} (o : Opens nodes rules c) {n : ℕ} → c.loaded ≡ Ok n → {all : Records} → AllOf c all → Read nodes rules n all
opened-read rules o r p =
    let ok = accepted-both rules o r in
    let f = lent-fronts p (open_fronts rules o r) in
    read-fronts ok.0 ok.1 f.0 f.1

-- refused as the reading is
pub by-reading : (nodes rules : List ℕ) (k : ℕ) {a b : ℕ} → read_changes nodes rules k ≡ Refused a b → SequencedPromise nodes rules k (Refused a b)
by-reading nodes rules k e = sym (ap tell_verdict (sequenced-refused nodes rules k e))

-- The slice of an image whose columns were opened, and are lent whole.
module _ (image : List ℕ) {c : Columns} (u : Unpacks image c) {n : ℕ} (r : c.loaded ≡ Ok n) {all : Records} (p : AllOf c all) where
  one-current : Single (doc_of image)
  one-current = single (doc_of image) (document-accepted image (held-image image u.answer r).accepted)

  -- what the descent asks for
  pub slice-asked : (n ≤ length all.kind.now) × (n ≤ length all.parent.now) × (n ≤ length all.begin.now) × (n ≤ length all.end.now)
      × ((doc : Doc) × Lends doc.size doc.kind 0 (take (n - 0) all.kind.now) × Lends doc.size doc.parent 0 (take (n - 0) all.parent.now)
      × Periods doc (take (n - 0) all.begin.now) (take (n - 0) all.end.now) × Judgeable doc × Single doc)
  slice-asked =
      let f = fronts u r in
      let w = f.whole in
      rw (p.kind, p.parent, p.begin, p.end) (f.kind, f.parent, f.begin, f.end, (doc_of image, w.tree.kind, w.tree.parent, w.periods, w.judgeable, one-current))

  -- what is so of every document in the columns is so of the image's
  pub of_image : {P : Doc → Type 0} → ((doc : Doc) → Lends doc.size doc.kind 0 (take (n - 0) all.kind.now) → Lends doc.size doc.parent 0 (take (n - 0) all.parent.now)
      → Periods doc (take (n - 0) all.begin.now) (take (n - 0) all.end.now) → Judgeable doc → Single doc → P doc) → P (doc_of image)
  of_image q =
      let w = (fronts u r).whole in
      q (doc_of image) (rw p.kind w.tree.kind) (rw p.parent w.tree.parent) (rw (p.begin, p.end) w.periods) w.judgeable one-current
