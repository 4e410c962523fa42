-- What the passes are given, and what their promises come to where the keys are made of rows, marks, classes and representatives.
use mathlib.Core.Path.{◌≡◌, refl, sym, ◌∙◌}
use mathlib.Core.Logic.{⊎_elim}
use mathlib.Core.Bool.{true, ◌&&◌}
use mathlib.Core.List.{List}
use Prim.Native.Nat.{ℕ, ◌≤◌, ◌<◌}
use native.Mathlib.Omega.{arith}
use lib.Dec.{leb, ltb, eqb}
use lib.ListN.{length}
use borrow.Author.Tests.{leb-true, ltb-true, le-leb, lt-ltb, le-ltb, eqb-true, eq-eqb}
use Rattle.meaning.specs.Block.{limit}
use Rattle.meaning.specs.Walk.{count}
use Rattle.meaning.proofs.Basics.{and_l, and_r, both, le_or_lt}
use Rattle.passes.specs.Passes.{at, On, Covers, Present, ByLeast, ByClash, ByGap}
use Rattle.passes.specs.Given.{GivenLeast, GivenClash, GivenGap}
use Rattle.parts.specs.Ground.{Ground}
use Rattle.parts.specs.Keyed.{Numbered, DemandKeys, ValueKeys}
use Rattle.crowds.specs.Crowds.{keyed_at, ByMany, Ordered}
use Rattle.parts.specs.Parts.{ByTwice, ByShared, ByUnheld, ByFew, Small}
use Rattle.parts.proofs.Tallies.{counted, some, two, count_less}

module _ (order lo hi : List ℕ) (n : ℕ) (ground : Ground order lo hi n) where
  -- a column of n records covers the order
  covers : {column : List ℕ} → n ≤ length column → Covers order column
  covers h = record { has = λ j l. omega (arith, ground.covered j l) }

  pub given_least : {key : List ℕ} → n ≤ length key → GivenLeast order key lo hi
  given_least h = record { keys = covers h; los = covers ground.lo_room; his = covers ground.hi_room; rising = ground.rising }

  pub given_clash : {key owner top holder : List ℕ} → n ≤ length key → n ≤ length owner → n ≤ length top → n ≤ length holder → GivenClash order key owner lo hi n top holder
  given_clash k o t h =
      record { keys = covers k; owners = covers o; los = covers ground.lo_room; his = covers ground.hi_room; rising = ground.rising; tops = t; holders = h }

  pub given_gap : {demand supply reach need : List ℕ} → n ≤ length demand → n ≤ length supply → n ≤ length reach → n ≤ length need
      → GivenGap order lo demand hi supply hi n reach need
  given_gap d s r h =
      record {
        los = covers ground.lo_room;
        demands = covers d;
        dhis = covers ground.hi_room;
        supplies = covers s;
        shis = covers ground.hi_room;
        rising = ground.rising;
        reaches = r;
        needs = h;
      }

  -- a record of the order is one of the n
  on-low : (x : ℕ) → On order x → x < n
  on-low x o = rw o.found at (ground.covered o.place o.below)

  -- by their own numbers two records of one row clash
  pub twice_by : (own rows : List ℕ) (D : ℕ) → Numbered n own → ByClash order rows own lo hi n D → ByTwice order rows lo hi n D
  unfolding ByClash ByTwice
  twice_by own' rows D own b x y p ox oy low same apart hx hy =
      b x y p ox oy low same (λ e. apart (sym (own.key x (on-low x ox)) ∙ e ∙ own.key y (on-low y oy))) hx hy

  -- by their values two records clash that have one
  module _ (rows reps values : List ℕ) (keys : ValueKeys n rows reps values) (small : Small n reps) where
    value-is : (x : ℕ) → On order x → at rows x < n → at values x ≡ at reps x
    value-is x o low = keys.key x (on-low x o) ∙ rw (lt-ltb (at rows x) n low) refl

    pub shared_by : (owners : List ℕ) (D : ℕ) → ByClash order values owners lo hi n D → ByShared order rows reps owners lo hi n D
    unfolding ByClash ByShared
    shared_by owners D b x y p ox oy lx ly same apart hx hy =
        let vx = value-is x ox lx in
        b x y p ox oy (omega (arith, small.low x (on-low x ox))) (vx ∙ same ∙ sym (value-is y oy ly)) apart hx hy

    -- and a value is demanded that the others supply
    pub unheld_by : (others theirs : List ℕ) (D : ℕ) → ValueKeys n others reps theirs → n ≤ limit → ByGap order lo values hi theirs hi n D
        → ByUnheld order rows others reps lo hi n D
    unfolding ByGap ByUnheld
    unheld_by others theirs D held few b x p ox low hx none =
        let vx = value-is x ox low in
        let small-x = small.low x (on-low x ox) in
        b x p ox (omega arith) hx
        (λ y oy e hy.
        ⊎_elim
        (λ out.
        let no : at theirs y ≡ limit = held.key y (on-low y oy) ∙ rw (le-ltb (at others y) n out) refl in
        omega arith)
        (λ within.
        let rep : at theirs y ≡ at reps y = held.key y (on-low y oy) ∙ rw (lt-ltb (at others y) n within) refl in
        none y oy within (sym rep ∙ e ∙ vx) hy)
        (le_or_lt n (at others y)))

  -- a record with key k that is present counts
  module _ (keys : List ℕ) (k p : ℕ) where
    keyed-here : (y : ℕ) → at keys y ≡ k → Present lo hi y p → keyed_at keys lo hi k p y ≡ true
    keyed-here y e h =
        both (eqb (at keys y) k) (leb (at lo y) p && ltb p (at hi y)) (eq-eqb (at keys y) k e)
        (both (leb (at lo y) p) (ltb p (at hi y)) (le-leb (at lo y) p h.from) (lt-ltb p (at hi y) h.to))

    keyed-key : (y : ℕ) → keyed_at keys lo hi k p y ≡ true → at keys y ≡ k
    keyed-key y t = eqb-true (at keys y) k (and_l (eqb (at keys y) k) (leb (at lo y) p && ltb p (at hi y)) t)

    keyed-present : (y : ℕ) → keyed_at keys lo hi k p y ≡ true → Present lo hi y p
    keyed-present y t =
        let w = and_r (eqb (at keys y) k) (leb (at lo y) p && ltb p (at hi y)) t in
        record { from = leb-true (at lo y) p (and_l (leb (at lo y) p) (ltb p (at hi y)) w); to = ltb-true p (at hi y) (and_r (leb (at lo y) p) (ltb p (at hi y)) w) }

  -- by its class a marked record demands one
  pub few-by : (marks classes demand keys : List ℕ) (D : ℕ) → DemandKeys n marks classes demand → Small n classes → ByGap order lo demand hi keys hi n D
      → ByFew order marks classes keys lo hi n 1 D
  unfolding ByGap ByFew
  few-by marks classes demand keys D demands small b x p ox mark hx few =
      let in_n = on-low x ox in
      let e : at demand x ≡ at classes x = demands.key x in_n ∙ rw mark refl in
      b x p ox (omega (arith, small.low x in_n)) hx
      (λ y oy same hy.
      omega (
        arith,
        counted (keyed_at keys lo hi (at classes x) p) 0 n y
            (record { from = omega arith; below = omega (arith, on-low y oy); passes = keyed-here keys (at classes x) p y (same ∙ e) hy }),
      ))

  module _ (keys : List ℕ) (line : Ordered order lo keys n) where
    on : (y : ℕ) → y < n → at keys y < n → On order y
    on y h l = let a = line.all y h l in record { place = line.place y; below = a.0; found = a.1 }

    -- one is more than none, and two are more than one
    pub some-by : (D : ℕ) → ByLeast order keys lo hi n D → ByMany keys lo hi n 0 D
    unfolding ByLeast ByMany
    some-by D b k p low many =
        let s = some (keyed_at keys lo hi k p) 0 n many in
        let y = s.0 in
        let e = keyed-key keys k p y s.1.passes in
        b y p (on y (omega (arith, s.1.below)) (omega arith)) (omega arith) (keyed-present keys k p y s.1.passes)

    pub pair-by : (D : ℕ) → ByTwice order keys lo hi n D → ByMany keys lo hi n 1 D
    unfolding ByTwice ByMany
    pair-by D b k p low many =
        let t = two (keyed_at keys lo hi k p) 0 n many in
        let x = t.one in
        let y = t.other in
        let ex = keyed-key keys k p x t.one_passes.passes in
        let ey = keyed-key keys k p y t.other_passes.passes in
        b x y p (on x (omega (arith, t.one_passes.below)) (omega arith)) (on y (omega (arith, t.other_passes.below)) (omega arith)) (omega arith) (ex ∙ sym ey)
        (λ e. omega (arith, t.less)) (keyed-present keys k p x t.one_passes.passes) (keyed-present keys k p y t.other_passes.passes)

-- where no key has more in all, none has at a place
pub none-by : (keys lo hi : List ℕ) (n high D : ℕ) → ((k : ℕ) → k < n → count (λ x. eqb (at keys x) k) 0 n ≤ high) → ByMany keys lo hi n high D
unfolding ByMany
none-by keys lo hi n high D few k p low many =
    absurd
    (omega (arith, few k low, count_less (keyed_at keys lo hi k p) (λ x. eqb (at keys x) k) (λ x t. and_l (eqb (at keys x) k) (leb (at lo x) p && ltb p (at hi x)) t) 0 n))

-- fewer than none are nowhere
pub few-none : (order marks classes keys lo hi : List ℕ) (n D : ℕ) → ByFew order marks classes keys lo hi n 0 D
unfolding ByFew
few-none order marks classes keys lo hi n D x p ox mark hx few = absurd (omega arith)
