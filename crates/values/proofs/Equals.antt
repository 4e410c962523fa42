-- Equal values have one lowest version, so two versions have equal values exactly where these are one.
use mathlib.Core.Path.{◌≡◌, refl, sym, ap, ◌∙◌}
use mathlib.Core.Logic.{⊎_elim}
use mathlib.Core.Bool.{Bool, true, false, ◌&&◌, ◌||◌, and-true, and-false}
use mathlib.Core.List.{List}
use Prim.Native.Nat.{ℕ, ◌≤◌, ◌<◌}
use native.Mathlib.Omega.{arith}
use borrow.Author.Tests.{eqb-true, eqb-false, eq-eqb, ne_eqb}
use lib.IntN.{ℤ}
use lib.Dec.{eqb}
use lib.ListN.{length, get_or}
use Rattle.std.specs.Prelude.{Some}
use Rattle.meaning.specs.Walk.{first}
use Rattle.meaning.specs.Bytes.{eq_z}
use Rattle.meaning.specs.Document.{Doc, is_version}
use Rattle.meaning.specs.Select.{is_nil, same_value}
use Rattle.meaning.proofs.Basics.{went, clear, tests_same, and_l, and_r, both, or_cases, or_l}
use Rattle.meaning.proofs.Walks.{first-same, first-at, first_found}
use Rattle.meaning.proofs.Places.{counted}
use Rattle.meaning.proofs.Says.{says}
use Rattle.meaning.specs.Block.{limit}
use Rattle.columns.specs.Lent.{Values}
use Rattle.values.specs.Represents.{Represents}
use Rattle.values.specs.Chosen.{Even, held, alike, Chosen, ChosenBelow}

module _ (doc : Doc) where
  -- equal values agree in kind and number
  pub agree : (f g : ℕ) → same_value doc f g ≡ true → (doc.vkind f ≡ doc.vkind g) × (doc.value f ≡ doc.value g)
  unfolding same_value
  agree f g e = let w = simp says at e in (w.0.0, w.0.1)

  -- the kinds are compared here, and r says whether the numbers are equal; f is no nil
  pub compared : (f g : ℕ) (r : Bool) → r ≡ eq_z (doc.value f) (doc.value g) → (doc.vkind f ≡ 3 → ⊥) → (eqb (doc.vkind f) (doc.vkind g) && r) ≡ same_value doc f g
  unfolding same_value is_nil
  compared f g r e n = rw (e, ne_eqb (doc.vkind f) 3 n) (sym (and-true (eqb (doc.vkind f) (doc.vkind g) && eq_z (doc.value f) (doc.value g))))

  -- a nil is like itself alone
  pub alone : (f : ℕ) → f < doc.size → is_version doc f ≡ true → doc.vkind f ≡ 3 → first (alike doc f) 0 doc.size ≡ Some f
  unfolding same_value is_nil
  alone f h v e =
      first-at (alike doc f) f 0 doc.size (omega arith) (omega arith) (simp says (eqb-true (doc.kind f) 2 v, λ q. refl))
      (λ j a l. simp says (λ k. ((λ p. e), λ p. omega arith)))

  -- and what agrees in both is equal, if it is no nil
  agreeing : (f g : ℕ) → doc.vkind f ≡ doc.vkind g → doc.value f ≡ doc.value g → is_nil doc f ≡ false → same_value doc f g ≡ true
  unfolding same_value
  agreeing f g k z n = simp says ((k, z), n)

  -- versions that are alike agree in kind and number, and a nil is like itself alone
  like : (f g : ℕ) → alike doc f g ≡ true → (doc.vkind f ≡ doc.vkind g) × (doc.value f ≡ doc.value g)
  like f g e =
      ⊎_elim (agree f g) (λ q. let u = eqb-true f g q in (ap doc.vkind u, ap doc.value u))
      (or_cases (same_value doc f g) (eqb f g) (and_r (is_version doc g) (same_value doc f g || eqb f g) e))

  like_nil : (f g : ℕ) → alike doc f g ≡ true → is_nil doc f ≡ true → f ≡ g
  unfolding same_value
  like_nil f g e n =
      ⊎_elim (λ q. absurd (clear n (simp says at q).1)) (eqb-true f g)
      (or_cases (same_value doc f g) (eqb f g) (and_r (is_version doc g) (same_value doc f g || eqb f g) e))

  -- a nil is a nil by its kind
  nil_kind : (f g : ℕ) → doc.vkind f ≡ doc.vkind g → is_nil doc f ≡ is_nil doc g
  unfolding is_nil
  nil_kind f g k = rw k

  -- what is like f is like any g that agrees with f and is no nil
  alike-too : (f g k : ℕ) → doc.vkind f ≡ doc.vkind g → doc.value f ≡ doc.value g → is_nil doc g ≡ false → alike doc f k ≡ true → alike doc g k ≡ true
  alike-too f g k a z n e =
      let w = like f k e in
      both (is_version doc k) (same_value doc g k || eqb g k) (and_l (is_version doc k) (same_value doc f k || eqb f k) e)
      (or_l (same_value doc g k) (eqb g k) (agreeing g k (sym a ∙ w.0) (sym z ∙ w.1) n))

  -- so versions with equal values have one lowest version
  pub lowest-same : (f g : ℕ) → same_value doc f g ≡ true → first (alike doc f) 0 doc.size ≡ first (alike doc g) 0 doc.size
  unfolding same_value
  lowest-same f g e =
      let w = simp says at e in
      let n : is_nil doc g ≡ false = sym (nil_kind f g w.0.0) ∙ w.1 in
      first-same (alike doc f) (alike doc g) 0 doc.size
      (λ k a b. tests_same (alike doc f k) (alike doc g k) (alike-too f g k w.0.0 w.0.1 n) (alike-too g f k (sym w.0.0) (sym w.0.1) w.1))

  -- the lowest version like a version agrees with it
  pub lowest-like : (f x : ℕ) → is_version doc f ≡ true → Chosen doc f x → alike doc f x ≡ true
  lowest-like f x v c = (first_found (alike doc f) 0 doc.size x (c.least v)).passes

  pub lowest-kind : (f x : ℕ) → is_version doc f ≡ true → Chosen doc f x → doc.vkind x ≡ doc.vkind f
  lowest-kind f x v c = sym (like f x (lowest-like f x v c)).0

  -- x and y stand for versions f and g
  chosen_same : (f g x y : ℕ) → is_version doc f ≡ true → is_version doc g ≡ true → (f ≡ g → ⊥) → Chosen doc f x → Chosen doc g y → same_value doc f g ≡ eqb x y
  chosen_same f g x y vf vg apart cf cg =
      tests_same (same_value doc f g) (eqb x y)
      (λ e. let t : Some x ≡ Some y = sym (cf.least vf) ∙ lowest-same f g e ∙ cg.least vg in let u : x ≡ y = cc in eq-eqb x y u)
      (λ e. let u = eqb-true x y e in
      let a = lowest-like f x vf cf in
      let b : alike doc g x ≡ true = rw u (lowest-like g y vg cg) in
      let p = like f x a in
      let q = like g x b in
      let k = p.0 ∙ sym q.0 in
      ⊎_elim
      (λ n. absurd (apart (like_nil f x a n ∙ sym (like_nil g x b (sym (nil_kind f g k) ∙ n)))))
      (agreeing f g k (p.1 ∙ sym q.1))
      (went (is_nil doc f)))

-- a document is represented as the three columns that hold it are
module _ (doc : Doc) (kinds vkinds : List ℕ) (values : List ℤ) (v : Values doc kinds vkinds values) where
  pub even_of : doc.size ≤ limit → Even kinds vkinds values
  even_of h = record { few = omega (arith, v.kind.size); vkind = v.vkind.size ∙ sym v.kind.size; value = v.value.size ∙ sym v.kind.size }

  same-held : (f g : ℕ) → same_value doc f g ≡ same_value (held kinds vkinds values) f g
  unfolding same_value is_nil
  same-held f g = rw (v.vkind.at f, v.vkind.at g, v.value.at f, v.value.at g)

  pub represents : (reps : List ℕ) → length kinds ≤ length reps → ChosenBelow (held kinds vkinds values) (length kinds) reps → Represents doc reps
  represents reps room s =
      let n = v.kind.size in
      let here : (f : ℕ) → is_version doc f ≡ true → f < length kinds = λ f e. let k = simp says at e in omega (arith, counted doc f (omega arith)) in
      let turn : (f : ℕ) → is_version doc f ≡ true → is_version (held kinds vkinds values) f ≡ true = λ f e. rw (v.kind.at f) e in
      record {
        room = omega arith;
        low = λ f h. omega (arith, (s.each f (omega arith)).low);
        same = λ f g a b n.
            same-held f g ∙ chosen_same (held kinds vkinds values) f g _ _ (turn f a) (turn g b) n (s.each f (here f a)) (s.each g (here g b));
        kind = λ f a.
            sym (v.vkind.at (get_or reps f 0)) ∙ lowest-kind (held kinds vkinds values) f (get_or reps f 0) (turn f a) (s.each f (here f a)) ∙ v.vkind.at f;
      }

-- Whose value is no nil is represented as all are whose value is equal, itself included; a nil equals nothing.
module _ {doc : Doc} {reps : List ℕ} (represents : Represents doc reps) where
  pub known_same : (f g : ℕ) → is_version doc f ≡ true → is_version doc g ≡ true → is_nil doc f ≡ false → same_value doc f g ≡ eqb (get_or reps f 0) (get_or reps g 0)
  known_same f g a b n =
      ⊎_elim
      (λ e. let u = eqb-true f g e in rw (← u) (agreeing doc f f refl refl n ∙ sym (eq-eqb (get_or reps f 0) (get_or reps f 0) refl)))
      (λ e. represents.same f g a b (eqb-false f g e))
      (went (eqb f g))

  pub rep-nil : (f : ℕ) → is_version doc f ≡ true → is_nil doc (get_or reps f 0) ≡ is_nil doc f
  rep-nil f a = nil_kind doc (get_or reps f 0) f (represents.kind f a)

pub nil_unlike : (doc : Doc) (f g : ℕ) → is_nil doc f ≡ true → same_value doc f g ≡ false
unfolding same_value
nil_unlike doc f g n = rw n (and-false (eqb (doc.vkind f) (doc.vkind g) && eq_z (doc.value f) (doc.value g)))

-- equal values are nils or not together
pub nil_alike : (doc : Doc) (f g : ℕ) → same_value doc f g ≡ true → is_nil doc f ≡ is_nil doc g
nil_alike doc f g e = nil_kind doc f g (agree doc f g e).0
