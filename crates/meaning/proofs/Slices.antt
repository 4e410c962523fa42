-- In a sound document a version is present on a day exactly where it is alive, so the slice is the versions alive; an item has one at most.
use mathlib.Core.Path.{◌≡◌, refl, ap}
use mathlib.Core.Bool.{true, false≢true}
use Prim.Native.Nat.{ℕ, zero, suc, ◌+◌, ◌≤◌, ◌<◌}
use native.Mathlib.Omega.{arith}
use Rattle.meaning.specs.Reading.{Accepted}
use Rattle.meaning.specs.Walk.{pick}
use Rattle.meaning.specs.Document.{Doc, above}
use Rattle.meaning.specs.Nodes.{depth, deepest, accept}
use Rattle.meaning.specs.Day.{alive, reached, present_on, slice}
use Rattle.meaning.proofs.Sound.{Version, SoundRecords, Sound}
use Rattle.meaning.proofs.Basics.{tests_same}
use Rattle.meaning.proofs.Walks.{pick_same}
use Rattle.meaning.proofs.Says.{says}
use Rattle.meaning.proofs.Records.{item-deep, depth-up, depth-most}
use Rattle.meaning.proofs.Places.{counted}
use Rattle.meaning.proofs.Accepted.{accepted-sound}

-- version v's own period has day d
pub record Lives (doc : Doc) (d v : ℕ) : Type 0 where
  pub kind : doc.kind v ≡ 2
  pub from : doc.begin v ≤ d
  pub to : d < doc.end v

module _ (doc : Doc) where
  -- the test `alive` says so
  pub lives : (d v : ℕ) → alive doc d v ≡ true → Lives doc d v
  unfolding alive
  lives d v e = let w = simp says at e in record { kind = w.0.0; from = w.0.1; to = w.1 }

  pub alive-lives : (d v : ℕ) → Lives doc d v → alive doc d v ≡ true
  unfolding alive
  alive-lives d v l = simp says ((l.kind, l.from), l.to)

  -- where a version stands: past its item, which is the root or one deeper than the version in which it stands
  pub record Stands (v : ℕ) : Type 0 where
    pub here : v < doc.size
    pub past : 0 < v
    pub up : doc.parent v < v
    pub item : doc.kind (doc.parent v) ≡ 1
    pub deep : 1 ≤ depth doc v
    pub over : 0 < doc.parent v → (above doc v < doc.parent v) × (doc.kind (above doc v) ≡ 2) × (depth doc v ≡ 1 + depth doc (above doc v))

  pub stands : SoundRecords doc → (v : ℕ) → doc.kind v ≡ 2 → Stands v
  stands r v k =
      let h : v < doc.size = counted doc v (omega arith) in
      let no_item : v ≡ 0 → ⊥ = λ e. omega (arith, r.root_item (omega arith), ap doc.kind e) in
      let z : 0 < v = omega arith in
      let p : ℕ = doc.parent v in
      let l : p < v = r.lower v z h in
      let ph : p < doc.size = omega arith in
      let kp : doc.kind p ≡ 1 = r.of_item v z h k in
      let dv : depth doc v ≡ 0 + depth doc p = rw k at (depth-up doc doc.size r.lower v z h) in
      let dp : 0 < p → depth doc p ≡ 1 + depth doc (doc.parent p) = λ q. rw kp at (depth-up doc doc.size r.lower p q ph) in
      record {
        here = h;
        past = z;
        up = l;
        item = kp;
        deep = omega (arith, item-deep doc p kp);
        over = λ q. (r.lower p q ph, r.of_version p q ph kp, omega (arith, dp q));
      }

-- a sound document, on day d
module _ (doc : Doc) (s : Sound doc) (d : ℕ) where
  -- a version alive stands in one that is alive
  above-alive : (v : ℕ) → alive doc d v ≡ true → 0 < doc.parent v → alive doc d (above doc v) ≡ true
  above-alive v e q =
      let l = lives doc d v e in
      let t = stands doc s.records v l.kind in
      let w : Version doc (doc.parent v) v = record { here = t.here; kind = l.kind; of = refl } in
      alive-lives doc d (above doc v) (record {
        kind = (t.over q).1;
        from = omega (arith, s.placed.after (doc.parent v) v q w);
        to = omega (arith, s.placed.before (doc.parent v) v q w);
      })

  -- so a version alive is come to, in as many items as it is deep
  alive-reached : (n v : ℕ) → depth doc v ≤ n → alive doc d v ≡ true → reached doc d n v ≡ true
  unfolding reached
  alive-reached zero v l e = absurd (omega (arith, (stands doc s.records v (lives doc d v e).kind).deep))
  alive-reached (suc n) v l e =
      simp says (
        e,
        λ z.
            let q : 0 < doc.parent v = omega arith in
            alive-reached n (above doc v) (omega (arith, ((stands doc s.records v (lives doc d v e).kind).over q).2)) (above-alive v e q),
      )

  reached-alive : (n v : ℕ) → reached doc d n v ≡ true → alive doc d v ≡ true
  unfolding reached
  reached-alive zero v e = absurd (false≢true e)
  reached-alive (suc n) v e = (simp says at e).0

  -- THE LAW of presence: present is alive, at every number
  pub present-alive : (v : ℕ) → present_on doc d v ≡ alive doc d v
  unfolding present_on
  present-alive v =
      tests_same (reached doc d deepest v) (alive doc d v) (reached-alive deepest v)
      (λ e. alive-reached deepest v (depth-most doc s.records v (stands doc s.records v (lives doc d v e).kind).here) e)

  -- an item has at most one version alive
  pub one-alive : (i u v : ℕ) → Version doc i u → Version doc i v → alive doc d u ≡ true → alive doc d v ≡ true → u ≡ v
  one-alive i u v x y a b =
      let lu = lives doc d u a in
      let lv = lives doc d v b in
      let not_lower : u < v → ⊥ = λ l. omega (arith, s.placed.order i u v l x y) in
      let not-higher : v < u → ⊥ = λ l. omega (arith, s.placed.order i v u l y x) in
      omega arith

-- a document in which a version is present exactly while it is alive, as in a sound one
abbrev pub PresentAlive : Doc → Type 0
PresentAlive doc = (d v : ℕ) → present_on doc d v ≡ alive doc d v

-- its slice is the versions alive, ascending
pub slice-alive : (doc : Doc) → PresentAlive doc → (d : ℕ) → slice doc d ≡ pick (alive doc d) 0 doc.size
unfolding slice
slice-alive doc p d = pick_same (present_on doc d) (alive doc d) 0 doc.size (λ v a b. p d v)

pub accepted-slice : (doc : Doc) → accept doc ≡ Accepted → (d : ℕ) → slice doc d ≡ pick (alive doc d) 0 doc.size
accepted-slice doc e = slice-alive doc (present-alive doc (accepted-sound doc e))
