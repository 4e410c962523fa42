-- What is told of an answer determines it: two answers with the same number and values are equal.
use mathlib.Core.Path.{◌≡◌, refl, ap, sym, ◌∙◌}
use mathlib.Core.Bool.{cond}
use lib.Dec.{eqb}
use Rattle.meaning.specs.Reading.{Reading, Accepted, Refused}
use Rattle.meaning.specs.declared.Verdict.TheVariants.{Holds, Fails}
use Rattle.std.specs.Prelude.{Result, Ok, Err, ℕ}
use Rattle.meaning.specs.declared.Refusal.{Refusal}
use Rattle.meaning.specs.declared.Verdict.{Verdict}
use Rattle.meaning.specs.Answer.{Told, tell_verdict, tell_listed, tell_output, tell_reading}

-- a way of telling from which each answer can be had back tells different answers apart
apart : {A : Type 0} (tell : A → Told) (back : Told → A) → ((a : A) → back (tell a) ≡ a) → (a b : A) → tell a ≡ tell b → a ≡ b
apart tell back same a b e = sym (same a) ∙ ap back e ∙ same b

pub reading_unique : (a b : Reading) → tell_reading a ≡ tell_reading b → a ≡ b
unfolding tell_reading
reading_unique = apart tell_reading (λ t. cond (eqb t.outcome 0) Accepted (Refused t.number t.place)) same
  where
    same : (a : Reading) → cond (eqb (tell_reading a).outcome 0) Accepted (Refused (tell_reading a).number (tell_reading a).place) ≡ a
    same Accepted = refl
    same (Err why) = refl

pub listed-unique : (a b : Result ℕ Refusal) → tell_listed a ≡ tell_listed b → a ≡ b
unfolding tell_listed
listed-unique = apart tell_listed (λ t. cond (eqb t.outcome 0) (Ok t.count) (Refused t.number t.place)) same
  where
    same : (a : Result ℕ Refusal) → cond (eqb (tell_listed a).outcome 0) (Ok (tell_listed a).count) (Refused (tell_listed a).number (tell_listed a).place) ≡ a
    same (Ok n) = refl
    same (Err why) = refl

pub output_unique : (a b : Result ℕ Refusal) → tell_output a ≡ tell_output b → a ≡ b
unfolding tell_output
output_unique = apart tell_output (λ t. cond (eqb t.outcome 0) (Ok t.count) (Refused t.number t.place)) same
  where
    same : (a : Result ℕ Refusal) → cond (eqb (tell_output a).outcome 0) (Ok (tell_output a).count) (Refused (tell_output a).number (tell_output a).place) ≡ a
    same (Ok n) = refl
    same (Err why) = refl

-- the verdict that was told
abbrev judged_back : Told → Result Verdict Refusal
judged_back t = cond (eqb t.outcome 0) (Ok (Holds t.count)) (cond (eqb t.outcome 1) (Ok (Fails t.day t.offender t.count)) (Refused t.number t.place))

pub verdict-unique : (a b : Result Verdict Refusal) → tell_verdict a ≡ tell_verdict b → a ≡ b
unfolding tell_verdict
verdict-unique = apart tell_verdict judged_back same
  where
    same : (a : Result Verdict Refusal) → judged_back (tell_verdict a) ≡ a
    same (Ok (Holds n)) = refl
    same (Ok (Fails d v n)) = refl
    same (Err why) = refl
