-- The answer on one record, on one reference, and on the whole image. Over plain variables: what each call gave, with what it ensures.
use mathlib.Core.Path.{◌≡◌, refl, sym, ap, ◌∙◌}
use mathlib.Core.Bool.{Bool, true, false, ◌||◌, not}
use mathlib.Core.List.{List}
use Prim.Native.Nat.{ℕ, ◌+◌, ◌-◌, ◌≤◌, ◌<◌}
use borrow.Author.Tests.{eq-eqb, ne_eqb, lt-ltb, le-ltb, not-true, not-false}
use lib.Dec.{eqb}
use lib.ListN.{length, get_or}
use Rattle.meaning.specs.Reading.{Reading, Accepted, Refused}
use Rattle.meaning.specs.Order.{need, and_then, earliest, in_order}
use Rattle.meaning.specs.Block.{rule_form, image_tests, record_of}
use Rattle.meaning.specs.Rules.{rule_at, rules_of, read_rule, refers_well, table_tests, read_rules}
use Rattle.std.specs.Prelude.{Result, Ok, Err}
use Rattle.rules.specs.declared.decode.Numbers.{Numbers}
use Rattle.rules.specs.Decoding.{numbers_of, decoded_in, said}
use Rattle.rules.specs.Table.{Table, refers_in}
use Rattle.rules.specs.Promises.{RulesPromise}
use Rattle.rules.proofs.Walked.{earliest-on, earliest-stops}
use Rattle.rules.proofs.Decoding.{orderly, taken}
use Rattle.rules.proofs.Tables.{rule_here, row}

-- what record k says of itself
abbrev pub tells : List ℕ → ℕ → Reading
tells image k = read_rule image (rules_of image) k

module _ (image : List ℕ) (n k : ℕ) {part : List ℕ} {d : Result Numbers ℕ} (t : Table image n) (here : k < n) (ep : part ≡ record_of rule_form image k) (ed : d ≡ decoded_in part) where
  told : tells image k ≡ said d k
  unfolding read_rule
  told = rw (rule_here image k (row t here).below, ed, ep) (sym (orderly (record_of rule_form image k) k))

  module _ {x : Numbers} (e : d ≡ Ok x) where
    pub decodes : earliest (tells image) (k + 1) (n - (k + 1)) ≡ earliest (tells image) k (n - k)
    decodes = earliest-on (tells image) n k here (told ∙ rw e)

    -- what was decoded are the numbers of rule k
    pub decodes_as : x ≡ numbers_of (rule_at (rules_of image) k)
    decodes_as = taken (record_of rule_form image k) (ap decoded_in (sym ep) ∙ sym ed ∙ e) ∙ ap numbers_of (sym (rule_here image k (row t here).below))

  pub stops : {m : ℕ} → d ≡ Err m → Refused m k ≡ earliest (tells image) k (n - k)
  stops e = earliest-stops (tells image) n k here (told ∙ rw e)

-- what the columns say of the rule that rule k refers to
abbrev pub refers : List ℕ → List ℕ → ℕ → ℕ → Reading
refers kind referred n k = need (refers_in kind referred n k) 26 k

module _ (kind referred : List ℕ) (n k : ℕ) where
  module _ {w : Bool} (here : k < n) (e : w ≡ refers_in kind referred n k) where
    pub refers-on : not w ≡ false → earliest (refers kind referred n) (k + 1) (n - (k + 1)) ≡ earliest (refers kind referred n) k (n - k)
    refers-on p = earliest-on (refers kind referred n) n k here (rw (← e, not-false w p))

    pub refers-stops : not w ≡ true → Refused 26 k ≡ earliest (refers kind referred n) k (n - k)
    refers-stops p = earliest-stops (refers kind referred n) n k here (rw (← e, not-true w p))

  pub no_reference : (get_or kind k 0 ≡ 3 → ⊥) → true ≡ refers_in kind referred n k
  unfolding refers_in
  no_reference h = rw (ne_eqb (get_or kind k 0) 3 h)

  module _ (h : get_or kind k 0 ≡ 3) {to : ℕ} (e : to ≡ get_or referred k 0) where
    pub missing : n ≤ to → false ≡ refers_in kind referred n k
    unfolding refers_in
    missing l = rw (← e, eq-eqb (get_or kind k 0) 3 h, le-ltb to n l)

    pub by_kind : to < n → (eqb (get_or kind to 0) 1 || eqb (get_or kind to 0) 2) ≡ refers_in kind referred n k
    unfolding refers_in
    by_kind l = rw (← e, eq-eqb (get_or kind k 0) 3 h, lt-ltb to n l)

ends : (x : Reading) → and_then x Accepted ≡ x
ends Accepted = refl
ends (Err why) = refl

-- 26 by the table
abbrev well_in : List ℕ → ℕ → Reading
well_in image k = need (refers_well (rules_of image) k) 26 k

-- the records, then the references
in_turn : (image : List ℕ) → in_order (table_tests image (rules_of image))
    ≡ and_then (earliest (read_rule image (rules_of image)) 0 (length (rules_of image))) (earliest (well_in image) 0 (length (rules_of image)))
unfolding in_order table_tests
in_turn image = rw (ends (earliest (well_in image) 0 (length (rules_of image))))

module _ (image : List ℕ) {b : Reading} (eb : b ≡ in_order (image_tests rule_form image)) where
  pub bad-blocks : {x y : ℕ} → b ≡ Refused x y → RulesPromise image b
  unfolding read_rules
  bad-blocks e = rw (← eb, e)

  module _ (ok : b ≡ Accepted) {n : ℕ} (en : n ≡ length (rules_of image)) {r : Reading} (er : r ≡ earliest (read_rule image (rules_of image)) 0 n) where
    pub bad-record : {x y : ℕ} → r ≡ Refused x y → RulesPromise image r
    unfolding read_rules
    bad-record e = rw (← eb, ok, in_turn image, ← en, ← er, e)

    pub all_read : {t : Reading} → r ≡ Accepted → t ≡ earliest (well_in image) 0 n → RulesPromise image t
    unfolding read_rules
    all_read e et = rw (← eb, ok, in_turn image, ← en, ← er, e, ← et)
