-- The finder by the kind of its rule: what it is given makes the columns fit, and what its parts promise is that nothing offends sooner.
use mathlib.Core.Path.{◌≡◌, refl, sym, ◌∙◌}
use mathlib.Core.Logic.{inl, inr, ⊎_elim}
use mathlib.Core.Bool.{true, false}
use mathlib.Core.List.{List}
use Prim.Native.Nat.{ℕ, ◌≤◌, ◌<◌}
use native.Mathlib.Omega.{arith}
use lib.ListN.{length}
use borrow.Author.Tests.{eq-eqb, ne_eqb}
use Rattle.meaning.specs.declared.Rule.{Rule}
use Rattle.meaning.specs.Block.{limit}
use Rattle.meaning.specs.Document.{Doc}
use Rattle.meaning.specs.Rules.{is_sequenced}
use Rattle.meaning.proofs.Basics.{le_or_lt}
use Rattle.groups.specs.Groups.{Groups}
use Rattle.groups.specs.Classes.{class_at}
use Rattle.groups.proofs.Gathering.{class-none}
use Rattle.passes.specs.Passes.{at, ByLeast}
use Rattle.crowds.specs.Crowds.{ByMany, Ordered}
use Rattle.distinct.specs.Classes.{Valued}
use Rattle.distinct.specs.Values.{ByManyValues}
use Rattle.places.specs.declared.Places.{Places}
use Rattle.parts.specs.Ground.{Ground}
use Rattle.parts.specs.Keyed.{Numbered}
use Rattle.parts.specs.Parts.{ByTwice, ByShared, ByUnheld, ByFew, ByFewValues, BelowWhole, Small}
use Rattle.parts.specs.Matched.{ByUnmatched}
use Rattle.soonest.specs.Soon.{SoonAside}
use Rattle.soonest.specs.Swept.{Swept}
use Rattle.soonest.proofs.Sweeping.{ordered, grounded, row_of}
use Rattle.soonest.proofs.DaySoon.{unique-days, key-days, reference-days, cardinality-days, datatype-days}
use Rattle.soonest.proofs.WindowSoon.{unique-windows, key-windows, reference-windows, cardinality-windows, value-windows}

-- what the columns of n records are found to be
pub record Rooms (kind : ℕ) (order closes chosen rows others reps lo hi : List ℕ) (n : ℕ) : Type 0 where
  pub few : n ≤ limit
  pub ground : Ground order lo hi n
  pub chosen_room : n ≤ length chosen
  pub rows_room : n ≤ length rows
  pub others_room : n ≤ length others
  pub small : Small n reps
  pub opens : Ordered order lo rows n
  pub ends : kind ≡ 4 → Ordered closes hi rows n

-- a column of own numbers is one of numbers below n
pub numbered-small : (n : ℕ) (own : List ℕ) → Numbered n own → Small n own
numbered-small n own k = record { room = k.room; low = λ x h. omega (arith, k.key x h) }

pub groups_small : (doc : Doc) (groups : List ℕ) (n : ℕ) → doc.size ≡ n → Groups doc groups → Small n groups
groups_small doc groups n e g = rw (← e) (record { room = g.room; low = g.low })

-- keys, and representatives below n
pub valued-of : (n : ℕ) (keys reps : List ℕ) → n ≤ limit → n ≤ length keys → Small n reps → Valued keys reps n
valued-of n keys reps few room small = record { few = few; in_keys = room; in_reps = small.room; low = small.low }

module _ (doc : Doc) (q r : Rule) (places : Places) (order closes chosen rows others reps lo hi : List ℕ) (kind low high : ℕ)
    (s : Swept doc q r places order closes chosen rows others reps lo hi kind low high) where
  -- only members have a row
  row-member : (x : ℕ) → x < doc.size → at rows x < doc.size → s.lined.begun.member x ≡ true
  row-member x h l = s.rows_in (at rows x) x (row_of doc r rows s.rows_are (at rows x) x l h refl)

  -- where only members have a key, those that have one are in the order of their begins; and for a cardinality in that of their ends
  opens_by : (keys : List ℕ) → ((x : ℕ) → x < doc.size → at keys x < doc.size → s.lined.begun.member x ≡ true) → Ordered order lo keys doc.size
  opens_by keys keyed = ordered doc lo order keys s.lined.begun.versions s.lined.begun.by_begin keyed

  ends_by : (keys : List ℕ) → ((x : ℕ) → x < doc.size → at keys x < doc.size → s.lined.begun.member x ≡ true) → kind ≡ 4 → Ordered closes hi keys doc.size
  ends_by keys keyed k = ordered doc hi closes keys s.lined.begun.versions (s.by_end k) keyed

  rooms-here : Rooms kind order closes chosen rows others reps lo hi doc.size
  rooms-here =
      record {
        few = s.judgeable.few;
        ground = grounded doc places order lo hi s.lined;
        chosen_room = s.chosen_are.room;
        rows_room = s.rows_are.room;
        others_room = s.others_room;
        small = record { room = s.represents.room; low = s.represents.low };
        opens = opens_by rows row-member;
        ends = ends_by rows row-member;
      }

  pub rooms : (n : ℕ) → doc.size ≡ n → Rooms kind order closes chosen rows others reps lo hi n
  rooms n e = rw (← e) rooms-here

  -- the same of the classes of their rows
  module _ (groups nums : List ℕ) (each : (f : ℕ) → f < doc.size → at nums f ≡ class_at groups doc.size (at rows f)) where
    number-member : (x : ℕ) → x < doc.size → at nums x < doc.size → s.lined.begun.member x ≡ true
    number-member x h l =
        ⊎_elim
        (λ past. absurd (omega (arith, each x h, class-none groups doc.size (at rows x) (at rows x) refl past, s.judgeable.few)))
        (λ in_row. row-member x h in_row)
        (le_or_lt doc.size (at rows x))

    number-opens : Ordered order lo nums doc.size
    number-opens = opens_by nums number-member

    number-ends : kind ≡ 4 → Ordered closes hi nums doc.size
    number-ends = ends_by nums number-member

  module _ (groups nums : List ℕ) (n : ℕ) (e : doc.size ≡ n) (each : (f : ℕ) → f < n → at nums f ≡ class_at groups n (at rows f)) where
    pub number-opens_by : Ordered order lo nums n
    number-opens_by = rw (← e) (number-opens groups nums (rw e each))

    pub number-ends_by : kind ≡ 4 → Ordered closes hi nums n
    number-ends_by = rw (← e) (number-ends groups nums (rw e each))

  module _ (sequenced : is_sequenced r ≡ true) (D n : ℕ) (e : doc.size ≡ n) where
    pub unique-found : kind ≡ 2 → ByTwice order rows lo hi n D → ByShared order rows reps rows lo hi n D → SoonAside doc q r places D
    unique-found k twice shared =
        unique-days doc q r places order lo hi s.lined s.judgeable sequenced rows s.rows_are s.rows_in D reps s.represents (rw (← e) at twice) (rw (← e) at shared)
        (sym s.kind_is ∙ k)

    pub reference-found : kind ≡ 3 → ByTwice order rows lo hi n D → ByUnmatched order rows others reps lo hi n D → SoonAside doc q r places D
    reference-found k twice unmatched =
        let is : r.kind ≡ 3 = sym s.kind_is ∙ k in
        let o = s.others_are (eq-eqb r.kind 3 is) in
        reference-days doc q r places order lo hi s.lined s.judgeable sequenced rows s.rows_are s.rows_in D reps s.represents others o.0 (s.others_in (eq-eqb r.kind 3 is)) o.1
        (rw (← e) at twice) (rw (← e) at unmatched) is

    pub datatype-found : 5 ≤ kind → ByLeast order rows lo hi n D → SoonAside doc q r places D
    datatype-found k least =
        datatype-days doc q r places order lo hi s.lined s.judgeable sequenced rows s.rows_are s.rows_in D (rw (← e) at least) (omega (arith, s.kind_is))

    module _ (own : List ℕ) (numbered : Numbered n own) where
      numbers : (x : ℕ) → x < doc.size → at own x ≡ x
      numbers x h = numbered.key x (omega arith)

      pub cardinality-found : kind ≡ 4 → (whole : ℕ) → 65535 ≤ whole → BelowWhole (ByFew order chosen own rows lo hi n low) whole D → ByMany rows lo hi n high D → SoonAside doc q r places D
      cardinality-found k whole all few many =
          let is : r.kind ≡ 4 = sym s.kind_is ∙ k in
          let b = s.bounds is in
          cardinality-days doc q r places order lo hi s.lined s.judgeable sequenced rows s.rows_are s.rows_in D chosen own s.chosen_are (s.chosen_in (inr k)) numbers low high b.0 b.1
          whole (omega (arith, s.counted.count_most)) (rw (← e) at few) (rw (← e) at many) is

      pub key-found : kind ≡ 1 → ByFew order chosen own rows lo hi n 1 D → ByTwice order rows lo hi n D → ByShared order rows reps rows lo hi n D → SoonAside doc q r places D
      key-found k few twice shared =
          key-days doc q r places order lo hi s.lined s.judgeable sequenced rows s.rows_are s.rows_in D reps s.represents (rw (← e) at twice) (rw (← e) at shared)
          chosen own s.chosen_are (s.chosen_in (inl k)) numbers (rw (← e) at few) (sym s.kind_is ∙ k)

  module _ (windowed : is_sequenced r ≡ false) (D n : ℕ) (e : doc.size ≡ n) where
    pub reference-met : kind ≡ 3 → ByUnheld order rows others reps lo hi n D → SoonAside doc q r places D
    reference-met k unheld =
        let is : r.kind ≡ 3 = sym s.kind_is ∙ k in
        let o = s.others_are (eq-eqb r.kind 3 is) in
        reference-windows doc q r places order lo hi s.lined s.judgeable windowed rows s.rows_are s.rows_in D reps s.represents others o.0 o.1 (rw (← e) at unheld) is

    module _ (groups nums : List ℕ) (classes : Groups doc groups) (each : (f : ℕ) → f < n → at nums f ≡ class_at groups n (at rows f)) where
      each-here : (f : ℕ) → f < doc.size → at nums f ≡ class_at groups doc.size (at rows f)
      each-here = rw e each

      pub unique-met : kind ≡ 2 → ByShared order rows reps nums lo hi n D → SoonAside doc q r places D
      unique-met k shared =
          unique-windows doc q r places order lo hi s.lined s.judgeable windowed rows s.rows_are s.rows_in D groups nums classes each-here reps s.represents (rw (← e) at shared)
          (sym s.kind_is ∙ k)

      pub key-met : (own : List ℕ) → Numbered n own → kind ≡ 1 → ByFew order chosen own rows lo hi n 1 D → ByShared order rows reps nums lo hi n D → SoonAside doc q r places D
      key-met own numbered k few shared =
          key-windows doc q r places order lo hi s.lined s.judgeable windowed rows s.rows_are s.rows_in D groups nums classes each-here reps s.represents (rw (← e) at shared)
          chosen own s.chosen_are (s.chosen_in (inl k)) (λ x h. numbered.key x (omega arith)) (rw (← e) at few) (sym s.kind_is ∙ k)

      -- a cardinality, by whether values are counted
      module _ (k : kind ≡ 4) (distinct : ℕ) (told : distinct ≡ r.distinct) (whole : ℕ) (is_whole : whole ≡ places.whole) where
        of_four : r.kind ≡ 4
        of_four = sym s.kind_is ∙ k

        pub cardinality-met : (distinct ≡ 1 → ⊥) → BelowWhole (ByFew order chosen groups nums lo hi n low) whole D → ByMany nums lo hi n high D → SoonAside doc q r places D
        cardinality-met every few many =
            let b = s.bounds of_four in
            cardinality-windows doc q r places order lo hi s.lined s.judgeable windowed rows s.rows_are s.rows_in D groups nums classes each-here chosen s.chosen_are (s.chosen_in (inr k)) low high
            (ne_eqb r.distinct 1 (λ e. every (told ∙ e))) b.0 b.1 s.counted whole is_whole (rw (← e) at few) (rw (← e) at many) of_four

        pub values-met : distinct ≡ 1 → BelowWhole (ByFewValues order chosen groups nums reps lo hi n low) whole D → ByManyValues nums reps lo hi n high D → SoonAside doc q r places D
        values-met one few many =
            let b = s.bounds of_four in
            value-windows doc q r places order lo hi s.lined s.judgeable windowed rows s.rows_are s.rows_in D groups nums classes each-here reps s.represents chosen s.chosen_are (s.chosen_in (inr k)) low high
            (eq-eqb r.distinct 1 (sym told ∙ one)) b.0 b.1 s.counted whole is_whole (rw (← e) at few) (rw (← e) at many) of_four

-- a kind that is none of the others
pub left_one : (kind : ℕ) → 1 ≤ kind → (kind ≡ 2 → ⊥) → (kind ≡ 3 → ⊥) → kind < 5 → (kind ≡ 4 → ⊥) → kind ≡ 1
left_one kind least a b most d = omega arith

pub left_key : (kind : ℕ) → 1 ≤ kind → (kind ≡ 3 → ⊥) → (kind ≡ 2 → ⊥) → (kind ≡ 4 → ⊥) → (5 ≤ kind → ⊥) → kind ≡ 1
left_key kind least a b d most = omega arith
