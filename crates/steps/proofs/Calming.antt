-- How far apart the numbers with a row lie, and that no window is wrong for a step where no two of them are a wrong step apart.
use mathlib.Core.Path.{◌≡◌, refl, sym, ◌∙◌, ap}
use mathlib.Core.Logic.{⊎_elim}
use mathlib.Core.Bool.{Bool, true, false, ◌&&◌, not}
use mathlib.Core.List.{List}
use Prim.Native.Nat.{ℕ, ◌+◌, ◌-◌, ◌≤◌, ◌<◌}
use native.Mathlib.Omega.{arith}
use lib.IntN.{ℤ, pos, ◌-ℤ◌}
use lib.Signed.{mag, le_z}
use lib.Dec.{leb, ltb, eqb}
use lib.ListN.{length, get_or}
use borrow.Author.Count.{below_more}
use borrow.Author.Tests.{le-ltb, le-leb, lt-leb, eqb-true, eqb-false, not-false}
use Rattle.meaning.specs.declared.Rule.{Rule}
use Rattle.meaning.specs.Block.{limit}
use Rattle.meaning.specs.Walk.{any}
use Rattle.meaning.specs.Document.{Doc, number_of}
use Rattle.prepare.specs.Rows.{KnownOnly}
use Rattle.meaning.specs.Select.{is_nil, is_number, within}
use Rattle.meaning.specs.Window.{under, follows, jumps}
use Rattle.meaning.proofs.Basics.{went, le_or_lt, clear, never, and_l, and_r, both}
use Rattle.meaning.proofs.Walks.{any_none, any-true}
use Rattle.meaning.proofs.Says.{says}
use Rattle.meaning.proofs.Selects.{version-here}
use Rattle.columns.specs.Judgeable.{Judgeable}
use Rattle.prepare.specs.Rows.{in_row}
use Rattle.groups.specs.Groups.{in_group}
use Rattle.steps.specs.Reaching.{always, wrong_after, Reaches}
use Rattle.steps.specs.Levels.{raised}
use Rattle.steps.specs.Places.{Closing, settled_as}
use Rattle.steps.specs.Calm.{Lies, Widened, Spanned, Numbered, Calm}
use Rattle.steps.proofs.Grouping.{group_version}
use Rattle.steps.proofs.Windowed.{number-ever}
use Rattle.steps.proofs.Raising.{step-above, step-below}
use Rattle.steps.proofs.Reached.{reach-none, reach-text, wrong-number}

-- x is z moved up; y is z, read back
pub widened_by : {least most key n vkind l g : ℕ} (z y : ℤ) (x : ℕ) → y ≡ z → mag z < 2147483648 → x ≡ raised y → l ≤ least → l ≤ x → most ≤ g → x ≤ g
    → (most < 4294967296 → g < 4294967296) → Widened least most key n vkind z l g
widened_by z y x e f is a b c d fits =
    let up : x ≡ raised z = is ∙ ap raised e in
    record { low = a; high = c; fits = fits; here = λ _ _. record { from = omega arith; to = omega arith; small = f } }

pub narrow_by : (least most top bottom up down : ℕ) → top ≡ up → bottom ≡ down
    → leb (most + 2147483648) (top + least) && leb (bottom + 2147483647 + most) (4294967295 + least) ≡ (leb (most + 2147483648) (up + least) && leb (down + 2147483647 + most) (4294967295 + least))
narrow_by least most top bottom up down a b = rw (a, b)

module _ (keys vkinds : List ℕ) (values : List ℤ) where
  pub spanned_none : Spanned keys vkinds values 0 4294967295 0
  spanned_none = record { low = omega arith; high = omega arith; each = λ f h. absurd (omega arith) }

  -- a span that holds the records below i and is widened to record i, whose value, read back, is y
  pub spanned_on : (i least most l g : ℕ) → Spanned keys vkinds values i least most → (y : ℤ) → y ≡ get_or values i (pos 0)
      → Widened least most (get_or keys i 0) (length vkinds) (get_or vkinds i 0) y l g → Spanned keys vkinds values (i + 1) l g
  spanned_on i least most l g s y e back =
      let w : Widened least most (get_or keys i 0) (length vkinds) (get_or vkinds i 0) (get_or values i (pos 0)) l g = rw e at back in
      record {
        low = omega (arith, s.low, w.low);
        high = w.fits s.high;
        each = below_more (λ f. get_or keys f 0 < length vkinds → get_or vkinds f 0 ≡ 1 → Lies (get_or values f (pos 0)) l g) i
            (λ f h k n. let t = s.each f h k n in record { from = omega (arith, t.from, w.low); to = omega (arith, t.to, w.high); small = t.small })
            w.here;
      }

  pub spanned_all : (i least most : ℕ) → Spanned keys vkinds values i least most → length vkinds ≤ i → Spanned keys vkinds values (length vkinds) least most
  spanned_all i least most s h = record { low = s.low; high = s.high; each = λ f l. s.each f (omega arith) }

  -- what lies in a narrow span lies near each other
  pub calm_by : (least most : ℕ) (low high : ℤ) → Spanned keys vkinds values (length vkinds) least most → mag low < 2147483648 → mag high < 2147483648
      → leb (most + 2147483648) (raised high + least) && leb (raised low + 2147483647 + most) (4294967295 + least) ≡ true → Calm keys vkinds values low high
  calm_by least most low high s fl fh t =
      let q = simp says at t in
      let wide : most + 2147483648 ≤ raised high + least = q.0 in
      let back : raised low + 2147483647 + most ≤ 4294967295 + least = q.1 in
      let top = s.high in
      record {
        near = λ f g a b.
            let z = get_or values f (pos 0) in
            let v = get_or values g (pos 0) in
            let x = s.each f a.here a.row a.number in
            let y = s.each g b.here b.row b.number in
            let up : le_z (z -ℤ v) high ≡ true
            = not-false (le_z (z -ℤ v) high)
            (sym (step-above z v x.small y.small high fh) ∙ le-ltb (raised v) (raised z + 2147483648 - raised high) (omega (arith, x.to, y.from))) in
            let down : le_z low (z -ℤ v) ≡ true
            = not-false (le_z low (z -ℤ v))
            (sym (step-below z v x.small y.small low fl) ∙ le-ltb (4294967295 - raised v) (raised low + 2147483647 - raised z) (omega (arith, x.from, y.to))) in
            both (le_z low (z -ℤ v)) (le_z (z -ℤ v) high) down up;
      }

  -- the same of a test on two numbers that, read back, are low and high
  pub calm_told : (least most : ℕ) (low high x y : ℤ) → Spanned keys vkinds values (length vkinds) least most → mag low < 2147483648 → mag high < 2147483648 → x ≡ low → y ≡ high
      → (t : Bool) → t ≡ (leb (most + 2147483648) (raised y + least) && leb (raised x + 2147483647 + most) (4294967295 + least)) → t ≡ true → Calm keys vkinds values low high
  calm_told least most low high x y s fl fh ex ey t e p = calm_by least most low high s fl fh (rw (ex, ey) at (sym e ∙ p))

module _ (doc : Doc) (r : Rule) (vkinds : List ℕ) (values : List ℤ) (begins ends keys groups closes : List ℕ)
    (c : Closing doc r vkinds values begins ends keys groups closes) (ok : Judgeable doc) (known : KnownOnly doc r)
    (low high : ℤ) (lo : low ≡ r.low) (hi : high ≡ r.high) (calm : Calm keys vkinds values low high) where
  -- a number under an item number has a row
  numbered : (n g : ℕ) → in_group doc r n g ≡ true → is_number doc g ≡ true → Numbered keys vkinds g
  unfolding in_group is_number
  numbered n g m t =
      let k = any-true (λ v. in_row doc r v g && eqb (number_of doc v) n) 0 doc.size m in
      let here : g < doc.size = version-here doc g (group_version doc r n g m) in
      let row : get_or keys g 0 ≡ k.0 = simp says at (c.rows.key k.0 g (omega (arith, k.1.below)) here ∙ and_l (in_row doc r k.0 g) _ k.1.passes) in
      let number : doc.vkind g ≡ 1 = simp says at t in
      record { here = omega (arith, c.vkind.size); row = omega (arith, k.1.below, c.vkind.size); number = c.vkind.at g ∙ number }

  -- f is a number with a row
  module _ (f : ℕ) (own : Numbered keys vkinds f) where
    close : (g : ℕ) → Numbered keys vkinds g → within r (doc.value f -ℤ doc.value g) ≡ true
    unfolding within
    close g other = rw (← c.value.at f, ← c.value.at g, ← lo, ← hi) (calm.near f g own other)

    -- h lies wholly between g and f
    abbrev between : ℕ → ℕ → ℕ → Bool
    between n g h = leb (doc.end g) (doc.begin h) && leb (doc.end h) (doc.begin f) && under doc always r n h && not (is_nil doc h)

    quiet : (n g : ℕ) → jumps doc always r n f g ≡ true → ⊥
    unfolding jumps follows
    quiet n g jump =
        let out = and_l (not (within r (doc.value f -ℤ doc.value g))) _ jump in
        let follow = and_r (not (within r (doc.value f -ℤ doc.value g))) _ jump in
        let near = and_l (is_number doc g && leb (doc.end g) (doc.begin f) && under doc always r n g) (not (any (between n g) 0 doc.size)) follow in
        let number = and_l (is_number doc g) _ (and_l (is_number doc g && leb (doc.end g) (doc.begin f)) _ near) in
        let m : in_group doc r n g ≡ true = sym (number-ever doc r ok known n g number) ∙ and_r (is_number doc g && leb (doc.end g) (doc.begin f)) _ near in
        clear (close g (numbered n g m number)) (simp says at out)

    pub calm_number : (v : ℕ) → v ≡ get_or keys f 0 → (a : ℕ) → ltb a 0 ≡ wrong_after doc r f a
    calm_number v is a =
        let h = own.row in
        le-ltb a 0 (omega arith)
        ∙ sym (any_none _ 0 doc.size (λ g _ _. never _ (λ t. quiet (number_of doc v) g (and_l (jumps doc always r (number_of doc v) f g) (ltb a (doc.end g)) t))))
        ∙ sym (wrong-number doc r vkinds keys c.vkind c.rows f own.here v is (omega arith) own.number a)

  -- the reach of every record
  pub calm_reaches : (out : List ℕ) → length out ≡ limit
      → ((f : ℕ) → f < length vkinds → get_or out f 0 ≡ settled_as (get_or keys f 0) (length vkinds) (get_or vkinds f 0) 0 0) → Reaches doc r out
  unfolding settled_as
  calm_reaches out room answer =
      record {
        room = omega (arith, ok.few);
        above = λ f a h l.
            let v = get_or keys f 0 in
            let n = c.vkind.size in
            let here : f < length vkinds = omega arith in
            let e = answer f here in
            ⊎_elim
            (λ (y : length vkinds ≤ v). let q : get_or out f 0 ≡ 0 = e ∙ rw (le-leb (length vkinds) v y) in rw q (reach-none doc r vkinds keys c.vkind c.rows f here v refl y a))
            (λ (y : v < length vkinds).
            ⊎_elim
            (λ (k : eqb (get_or vkinds f 0) 1 ≡ true).
            let q : get_or out f 0 ≡ 0 = e ∙ rw (lt-leb (length vkinds) v y, k) in
            rw q (calm_number f (record { here = here; row = y; number = eqb-true (get_or vkinds f 0) 1 k }) v refl a))
            (λ (k : eqb (get_or vkinds f 0) 1 ≡ false).
            let q : get_or out f 0 ≡ 65535 = e ∙ rw (lt-leb (length vkinds) v y, k) in
            rw q (reach-text doc r vkinds keys c.vkind c.rows f here v refl y (eqb-false (get_or vkinds f 0) 1 k) 65535 (omega arith) a l))
            (went (eqb (get_or vkinds f 0) 1)))
            (le_or_lt (length vkinds) v);
      }
