-- A sequenced rule of each kind: what the passes promise of each part of its offence is that no version offends at an earlier place.
use mathlib.Core.Path.{◌≡◌, sym, ◌∙◌}
use mathlib.Core.Logic.{◌⊎◌, inl, ⊎_elim, ⊎_map}
use mathlib.Core.Bool.{true}
use mathlib.Core.List.{List}
use Prim.Native.Nat.{ℕ, ◌≤◌, ◌<◌}
use native.Mathlib.Omega.{arith}
use lib.IntN.{pos}
use Rattle.meaning.specs.declared.Rule.{Rule}
use Rattle.meaning.specs.Document.{Doc}
use Rattle.meaning.specs.Rules.{is_sequenced}
use Rattle.meaning.specs.Select.{selected, valued}
use Rattle.meaning.specs.Day.{offends}
use Rattle.meaning.specs.Window.{meets}
use Rattle.meaning.proofs.Basics.{clear, never}
use Rattle.columns.specs.Judgeable.{Judgeable}
use Rattle.marks.specs.Marks.{Marks}
use Rattle.values.specs.Represents.{Represents}
use Rattle.prepare.specs.Rows.{wants, in_row}
use Rattle.prepare.specs.Keys.{Keys}
use Rattle.prepare.specs.Spoiling.{spoils}
use Rattle.passes.specs.Passes.{at, ByLeast}
use Rattle.places.specs.declared.Places.{Places}
use Rattle.places.specs.Placing.{window_at}
use Rattle.soonest.specs.Soon.{offends_at, Soon, Unspoilt, SoonAside}
use Rattle.soonest.specs.Lined.{Lined, ChosenIn, RowsIn}
use Rattle.crowds.specs.Crowds.{ByMany}
use Rattle.parts.specs.Parts.{ByTwice, ByShared, ByFew, BelowWhole}
use Rattle.parts.specs.Matched.{ByUnmatched}
use Rattle.soonest.proofs.Nested.{meets-nested}
use Rattle.soonest.proofs.DayOffences.{key-offence, unique-offence, reference-offence, cardinality-offence, datatype-offence}
use Rattle.soonest.proofs.Sweeping.{row_is, some-soon, twice_soon, shared_soon, few-soon, many-soon, lacks_soon, unmatched_soon}

-- where each offence is at D or later, D is soon enough
pub soon_from : (doc : Doc) (q r : Rule) (places : Places) (D : ℕ)
    → ((k v : ℕ) → k < places.count → offends_at doc (window_at places k) q r v ≡ true → D ≤ k) → Soon doc q r places D
unfolding Soon
soon_from doc q r places D late k v h l = never (offends_at doc (window_at places k) q r v) (λ e. omega (arith, late k v h e))

-- nils aside, where each offence is at D or later, or is by a nil
pub aside_from : (doc : Doc) (q r : Rule) (places : Places) (D : ℕ)
    → ((k v : ℕ) → k < places.count → offends_at doc (window_at places k) q r v ≡ true → (D ≤ k) ⊎ (spoils doc (meets doc (window_at places k)) r v ≡ true)) → SoonAside doc q r places D
unfolding Soon Unspoilt
aside_from doc q r places D late E low clean k v h l =
    never (offends_at doc (window_at places k) q r v) (λ e. ⊎_elim (λ m. omega arith) (λ s. clear s (clean k v h l)) (late k v h e))

module _ (doc : Doc) (q r : Rule) (places : Places) (order lo hi : List ℕ) (lined : Lined doc places order lo hi) (judgeable : Judgeable doc)
    (sequenced : is_sequenced r ≡ true) (rows : List ℕ) (keys : Keys doc r rows) (read : RowsIn doc lined.begun.member r) (D : ℕ) where
  -- an offence as on a day
  or_nil : ((k v : ℕ) → k < places.count → offends doc (meets doc (window_at places k)) q r v ≡ true → (D ≤ k) ⊎ (spoils doc (meets doc (window_at places k)) r v ≡ true)) → SoonAside doc q r places D
  unfolding offends_at
  or_nil late = aside_from doc q r places D (λ k v h e. late k v h (rw sequenced at e))

  on-day : ((k v : ℕ) → k < places.count → offends doc (meets doc (window_at places k)) q r v ≡ true → D ≤ k) → SoonAside doc q r places D
  on-day late = or_nil (λ k v h e. inl (late k v h e))

  module _ (reps : List ℕ) (represents : Represents doc reps) where
    -- two values in a row, or one of two rows
    module _ (twice : ByTwice order rows lo hi doc.size D) (shared : ByShared order rows reps rows lo hi doc.size D) where
      rows_tell : (u v f g : ℕ) → in_row doc r u f ≡ true → in_row doc r v g ≡ true → at rows f ≡ at rows g → u ≡ v
      rows_tell u v f g a b e = sym (row_is doc r rows keys u f a) ∙ e ∙ row_is doc r rows keys v g b

      pub unique-days : r.kind ≡ 2 → SoonAside doc q r places D
      unique-days kind =
          on-day (λ k v h e.
          ⊎_elim
          (twice_soon doc places order lo hi lined k h r rows keys read D twice)
          (shared_soon doc places order lo hi lined k h r rows keys read reps represents (λ u. u) rows rows_tell D shared)
          (unique-offence doc (meets doc (window_at places k)) q r v e sequenced kind))

      pub key-days : (chosen own : List ℕ) → Marks (selected doc r) doc.size chosen → ChosenIn doc lined.begun.member r → ((x : ℕ) → x < doc.size → at own x ≡ x)
          → ByFew order chosen own rows lo hi doc.size 1 D → r.kind ≡ 1 → SoonAside doc q r places D
      key-days chosen own marks chosen_in numbers few kind =
          or_nil (λ k v h e.
          ⊎_map
          (⊎_elim
          (lacks_soon doc places order lo hi lined k h r rows keys read chosen own marks chosen_in numbers D few)
          (⊎_elim
          (twice_soon doc places order lo hi lined k h r rows keys read D twice)
          (shared_soon doc places order lo hi lined k h r rows keys read reps represents (λ u. u) rows rows_tell D shared)))
          (λ s. s)
          (key-offence doc (meets doc (window_at places k)) q r v e sequenced kind))

    -- two values in a row, or a value that no row of the rule that it refers to has as its only one
    pub reference-days : (others : List ℕ) → Keys doc q others → RowsIn doc lined.begun.member q → ((f : ℕ) → wants doc q f ≡ valued doc f) → ByTwice order rows lo hi doc.size D
        → ByUnmatched order rows others reps lo hi doc.size D → r.kind ≡ 3 → SoonAside doc q r places D
    reference-days others other_keys other-read wanted twice unmatched kind =
        or_nil (λ k v h e.
        ⊎_map
        (⊎_elim
        (twice_soon doc places order lo hi lined k h r rows keys read D twice)
        (unmatched_soon doc places order lo hi lined k h r q rows others reps keys other_keys represents read other-read D unmatched))
        (λ s. s)
        (reference-offence doc (meets doc (window_at places k)) q r v e sequenced kind wanted (meets-nested doc judgeable (window_at places k) q)))

  -- too few or too many in a row
  pub cardinality-days : (chosen own : List ℕ) → Marks (selected doc r) doc.size chosen → ChosenIn doc lined.begun.member r → ((x : ℕ) → x < doc.size → at own x ≡ x) → (low high : ℕ)
      → pos low ≡ r.low → pos high ≡ r.high → (whole : ℕ) → places.count ≤ whole → BelowWhole (ByFew order chosen own rows lo hi doc.size low) whole D
      → ByMany rows lo hi doc.size high D → r.kind ≡ 4 → SoonAside doc q r places D
  cardinality-days chosen own marks chosen_in numbers low high l m whole all few many kind =
      on-day (λ k v h e.
      let s = cardinality-offence doc (meets doc (window_at places k)) q r v e sequenced kind low high l m in
      ⊎_elim
      (λ c.
      few.no_later k (omega arith)
      (few-soon doc places order lo hi lined k h r rows keys read chosen own marks chosen_in numbers s.v s.chosen low few.place few.promised s.here c))
      (many-soon doc places order lo hi lined k h r rows keys read chosen own marks chosen_in numbers s.v s.chosen high D many)
      s.outside)

  -- a wrong value
  pub datatype-days : ByLeast order rows lo hi doc.size D → 5 ≤ r.kind → SoonAside doc q r places D
  datatype-days least kind =
      on-day (λ k v h e.
      some-soon doc places order lo hi lined k h r rows keys read D least (datatype-offence doc (meets doc (window_at places k)) q r v e sequenced kind))
