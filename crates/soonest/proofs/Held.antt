-- How many of a row are present, and what their number tells: none, one or more, two or more.
use mathlib.Core.Path.{◌≡◌, refl}
use mathlib.Core.Bool.{Bool, true, false, ◌&&◌, and_comm}
use Prim.Native.Nat.{ℕ, ◌≤◌, ◌<◌}
use native.Mathlib.Omega.{arith}
use Rattle.meaning.specs.declared.Rule.{Rule}
use Rattle.meaning.specs.Walk.{count}
use Rattle.meaning.specs.Document.{Doc}
use Rattle.meaning.specs.Select.{selected, field_of, valued, gives}
use Rattle.meaning.specs.Day.{values}
use Rattle.meaning.proofs.Basics.{and_l, and_r, both}
use Rattle.meaning.proofs.Walks.{count_same}
use Rattle.meaning.proofs.Selects.{version-here}
use Rattle.prepare.specs.Rows.{wants, in_row}
use Rattle.groups.proofs.Gathering.{row-version}
use Rattle.soonest.proofs.Offences.{Lacks, Twice, Some}
use Rattle.parts.proofs.Tallies.{counted, some, two, count_less}

-- f is in the row of v, and present
abbrev pub held_by : Doc → (ℕ → Bool) → Rule → ℕ → ℕ → Bool
held_by doc p r v f = in_row doc r v f && p f

-- how many of the row of v are present
abbrev pub held : Doc → (ℕ → Bool) → Rule → ℕ → ℕ
held doc p r v = count (held_by doc p r v) 0 doc.size

module _ (doc : Doc) (p : ℕ → Bool) (r : Rule) where
  -- what is in a row is a record of the document
  pub row_here : (v f : ℕ) → in_row doc r v f ≡ true → f < doc.size
  row_here v f e = version-here doc f (row-version doc r v f e)

  -- no more are present than are in the row
  pub held-most : (v : ℕ) → held doc p r v ≤ count (in_row doc r v) 0 doc.size
  held-most v = count_less (held_by doc p r v) (in_row doc r v) (λ f e. and_l (in_row doc r v f) (p f) e) 0 doc.size

  -- where one is present, the number is above none
  pub held_one : (v f : ℕ) → in_row doc r v f ≡ true → p f ≡ true → 0 < held doc p r v
  held_one v f i e =
      counted (held_by doc p r v) 0 doc.size f
      (record { from = omega arith; below = omega (arith, row_here v f i); passes = both (in_row doc r v f) (p f) i e })

  -- none is present
  pub held-lacks : (v : ℕ) → selected doc r v ≡ true → p v ≡ true → held doc p r v < 1 → Lacks doc p r
  held-lacks v s e h = record { v = v; chosen = s; here = e; none = λ f i y. omega (arith, held_one v f i y) }

  -- one or more are
  pub held-some : (v : ℕ) → 0 < held doc p r v → Some doc p r
  held-some v h =
      let s = some (held_by doc p r v) 0 doc.size h in
      let f = s.0 in
      let b = s.1.passes in
      record { v = v; f = f; in-row = and_l (in_row doc r v f) (p f) b; here = and_r (in_row doc r v f) (p f) b }

  -- two or more are
  pub held-twice : (v : ℕ) → 1 < held doc p r v → Twice doc p r
  held-twice v h =
      let t = two (held_by doc p r v) 0 doc.size h in
      let f = t.one in
      let g = t.other in
      record {
        v = v;
        f = f;
        g = g;
        apart = λ e. omega (arith, t.less);
        first = and_l (in_row doc r v f) (p f) t.one_passes.passes;
        second = and_l (in_row doc r v g) (p g) t.other_passes.passes;
        first_here = and_r (in_row doc r v f) (p f) t.one_passes.passes;
        second_here = and_r (in_row doc r v g) (p g) t.other_passes.passes;
      }

  -- the rows hold what has a value
  module _ (w : (f : ℕ) → wants doc r f ≡ valued doc f) (v : ℕ) (s : selected doc r v ≡ true) where
    -- what gives a value is what is held
    pub gives-held : (f : ℕ) → gives doc p r v f ≡ held_by doc p r v f
    unfolding gives in_row
    gives-held f = rw (s, w f) (swap (field_of doc r v f) (p f) (valued doc f))
      where
        swap : (a x y : Bool) → a && x && y ≡ (a && y && x)
        swap true x y = and_comm x y
        swap false x y = refl

    -- as many are held as there are values
    pub values_held : values doc p r v ≡ held doc p r v
    unfolding values
    values_held = count_same (gives doc p r v) (held_by doc p r v) 0 doc.size (λ f a b. gives-held f)
