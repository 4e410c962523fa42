-- The table of an image whose blocks were read: how many rules it has, which of its bytes each is read from, and that those lie in a block.
use mathlib.Core.Path.{◌≡◌, refl, sym, ap, ◌∙◌}
use mathlib.Core.Bool.{true, ◌||◌}
use mathlib.Core.Logic.{⊎_elim}
use mathlib.Core.List.{List}
use Prim.Native.Nat.{ℕ, ◌≤◌, ◌<◌}
use native.Mathlib.Nat.{zero-add}
use native.Mathlib.Omega.{arith}
use borrow.Author.Tests.{eqb-true, eq-eqb, ne_eqb}
use lib.ListN.{length}
use Rattle.meaning.specs.declared.Rule.{Rule}
use Rattle.meaning.specs.Reading.{Accepted}
use Rattle.meaning.specs.Order.{in_order}
use Rattle.meaning.specs.Block.{rule_form, image_tests, records, record_of}
use Rattle.meaning.specs.Rules.{is_key, is_unique, is_reference, rule_in, no_rule, rule_fields, rule_at, rules_of, read_rules}
use Rattle.meaning.specs.Answer.{referred_by}
use Rattle.meaning.proofs.Basics.{or_l, or_r}
use Rattle.meaning.proofs.RulesSound.{rules_sound}
use Rattle.meaning.proofs.Tables.{rule_row}
use Rattle.meaning.proofs.Orders.{then_accepted}
use Rattle.meaning.proofs.Walks.{length_listed, get_d_listed}
use Rattle.block.specs.Fair.{Fair, Read, Counted, Inside}
use Rattle.block.proofs.Places.{count-all}
use Rattle.rules.specs.Table.{Table, Row, referred_or}

-- the form of a rule image is one that the reader of blocks takes
fair : Fair rule_form
fair = record { some = omega arith; room = omega arith; each_small = omega arith; most_small = omega arith; base_small = omega arith }

module _ (image : List ℕ) where
  -- rule k, as its record says
  abbrev rule : ℕ → Rule
  rule k = rule_in (record_of rule_form image k)

  -- a rule for each record
  length_rules : length (rules_of image) ≡ records rule_form image
  unfolding rules_of
  length_rules = length_listed rule 0 (records rule_form image)

  pub rule_here : (k : ℕ) → k < length (rules_of image) → rule_at (rules_of image) k ≡ rule_in (record_of rule_form image k)
  unfolding rules_of
  rule_here k h = get_d_listed rule 0 (records rule_form image) k no_rule (omega (arith, length_rules)) ∙ ap rule (zero-add k)

  pub accepted-blocks : read_rules image ≡ Accepted → in_order (image_tests rule_form image) ≡ Accepted
  unfolding read_rules
  accepted-blocks e = (then_accepted (in_order (image_tests rule_form image)) _ e).0

module _ {image : List ℕ} where
  -- what the count of records says of the table
  pub counted : {n : ℕ} → in_order (image_tests rule_form image) ≡ Accepted → Counted rule_form image n → Table image n
  counted e c = record { blocks = e; count = c.count ∙ sym (length_rules image); few = omega (arith, c.few) }

  -- a number below the count is a rule's
  pub row : {n k : ℕ} → Table image n → k < n → Row image k
  row t h = record { blocks = t.blocks; below = rw t.count at h }

  -- a rule's record lies in a block
  pub inside : {k : ℕ} → Row image k → Inside rule_form image k
  inside {k} r =
      let read : Read rule_form image = record { fair = fair; accepted = r.blocks } in
      let all = count-all read refl refl in
      record { fair = fair; inside = omega (arith, all.count, all.inside, length_rules image, r.below) }

-- an accepted table has at most a hundred rules
pub accepted-few : (image : List ℕ) → read_rules image ≡ Accepted → length (rules_of image) ≤ 100
accepted-few image a =
    let read : Read rule_form image = record { fair = fair; accepted = accepted-blocks image a } in
    let t = counted (accepted-blocks image a) (count-all read refl refl) in
    omega (arith, t.count, t.few)

-- the rule that rule k refers to, else itself
module _ (rs : List Rule) (k : ℕ) where
  pub refers_to : {q : Rule} → q ≡ referred_or rs k → is_reference (rule_at rs k) ≡ true → q ≡ referred_by rs k
  refers_to e t = e ∙ rw t

  module _ {r : Rule} (e : r ≡ rule_at rs k) where
    pub itself : (r.kind ≡ 3 → ⊥) → r ≡ referred_or rs k
    itself n = rw (← e, ne_eqb r.kind 3 n)

    pub the_other : {q : Rule} → r.kind ≡ 3 → q ≡ rule_at rs r.referred → q ≡ referred_or rs k
    the_other t eq = rw (← e, eq-eqb r.kind 3 t) eq

-- a rule of a table that was accepted
module _ (image : List ℕ) (a : read_rules image ≡ Accepted) (k : ℕ) (h : k < length (rules_of image)) where
  pub accepted-row : Row image k
  accepted-row = record { blocks = accepted-blocks image a; below = h }

  -- each rule fits its table
  pub accepted-fields : rule_fields (rule_at (rules_of image) k) ≡ true
  accepted-fields = (rule_row (rule_at (rules_of image) k)).1 ((rules_sound image a).table k h)

  -- and a reference refers to a rule
  module _ {r : Rule} (e : r ≡ rule_at (rules_of image) k) where
    pub referred-row : r.kind ≡ 3 → Row image r.referred
    referred-row t = rw e (record { blocks = accepted-blocks image a; below = ((rules_sound image a).referred k h (ap (λ (x : Rule). x.kind) (sym e) ∙ t)).0 })

    -- both fit the table, and what a reference refers to is a key or a unique rule
    pub fields_of : rule_fields r ≡ true
    fields_of = rw e accepted-fields

    pub fields_referred : {q : Rule} → q ≡ referred_or (rules_of image) k → is_reference r ≡ true → (rule_fields q ≡ true) × ((is_key q || is_unique q) ≡ true)
    fields_referred eq t =
        let y : is_reference (rule_at (rules_of image) k) ≡ true = ap is_reference (sym e) ∙ t in
        let to = (rules_sound image a).referred k h (eqb-true _ 3 y) in
        let p = referred_by (rules_of image) k in
        rw (refers_to (rules_of image) k eq y) ((rule_row p).1 ((rules_sound image a).table (rule_at (rules_of image) k).referred to.0), ⊎_elim (λ one. or_l (is_key p) _ (eq-eqb _ 1 one)) (λ two. or_r (is_key p) _ (eq-eqb _ 2 two)) to.1)
