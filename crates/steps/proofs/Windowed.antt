-- Whether a field version offends in a window: it meets the window, and is wrong after the window's first day, which hangs on nothing else of the window.
use mathlib.Core.Path.{◌≡◌, refl, sym, ◌∙◌, ap}
use mathlib.Core.Bool.{Bool, true, false, ◌&&◌, ◌||◌, not, and-true, and-false, and_assoc}
use Prim.Native.Nat.{ℕ, ◌≤◌, ◌<◌}
use native.Mathlib.Omega.{arith}
use lib.IntN.{◌-ℤ◌}
use lib.Dec.{leb, ltb}
use borrow.Author.Tests.{eqb-true, ne_eqb}
use Rattle.meaning.specs.declared.Rule.{Rule}
use Rattle.meaning.specs.Walk.{any}
use Rattle.meaning.specs.Document.{Doc, is_version, number_of}
use Rattle.meaning.specs.Rules.{by_kind}
use Rattle.meaning.specs.Select.{is_nil, is_number, within}
use Rattle.meaning.specs.Window.{Window, meets, under, follows, jumps, datatype_in, breaks_in, offends_in}
use Rattle.meaning.proofs.Basics.{and_same}
use Rattle.meaning.proofs.Walks.{any_same}
use Rattle.meaning.proofs.Says.{says}
use Rattle.columns.specs.Judgeable.{Judgeable}
use Rattle.prepare.specs.Rows.{KnownOnly, in_row}
use Rattle.groups.specs.Groups.{in_group}
use Rattle.steps.specs.Reaching.{always, wrong_under, wrong_after}
use Rattle.steps.proofs.Grouping.{any-and, group_version, row-present, under-group, lasting, meets-row}

-- with a the first two tests of `follows`, i and m its third: what meets is what ends late, and then the same lies between
late : (a i m l x y : Bool) → (a ≡ true → i ≡ true → m ≡ l) → (a ≡ true → l ≡ true → x ≡ y) → (a && (i && m)) && not x ≡ (((a && i) && not y) && l)
late false i m l x y p q = refl
late true false m l x y p q = refl
late true true m false x y p q = rw (p refl refl) (sym (and-false (not y)))
late true true m true x y p q = rw (p refl refl, q refl refl) (sym (and-true (not y)))

-- a second and a third test together that are the same where the first passes
behind : (a b c k : Bool) → (a ≡ true → b && k ≡ (c && k)) → a && b && k ≡ (a && c && k)
behind true b c k h = h refl
behind false b c k h = refl

-- a second test put last, the third one hanging on it
last_of : (i m c d : Bool) → (m ≡ true → c ≡ d) → (i && m) && c ≡ ((i && d) && m)
last_of false m c d p = refl
last_of true false c d p = sym (and-false d)
last_of true true c d p = p refl ∙ sym (and-true d)

not_nil : (doc : Doc) (f : ℕ) → is_number doc f ≡ true → (b : Bool) → b && not (is_nil doc f) ≡ b
unfolding is_number is_nil
not_nil doc f e b = let k = eqb-true (doc.vkind f) 1 e in rw (ne_eqb (doc.vkind f) 3 (λ q. omega arith)) (and-true b)

module _ (doc : Doc) (r : Rule) (ok : Judgeable doc) (known : KnownOnly doc r) where
  -- of no window in particular
  pub under-ever : (n f : ℕ) → under doc always r n f && not (is_nil doc f) ≡ in_group doc r n f
  under-ever n f = under-group doc r known always (λ v g e t. refl) n f ∙ and-true (in_group doc r n f)

  -- a number is no nil
  pub number-ever : (n f : ℕ) → is_number doc f ≡ true → under doc always r n f ≡ in_group doc r n f
  number-ever n f e = sym (not_nil doc f e (under doc always r n f)) ∙ under-ever n f

  module _ (w : Window) where
    under-in : (n f : ℕ) → under doc (meets doc w) r n f && not (is_nil doc f) ≡ (in_group doc r n f && meets doc w f)
    under-in = under-group doc r known (meets doc w) (meets-row doc r ok w)

    number_in : (n f : ℕ) → is_number doc f ≡ true → under doc (meets doc w) r n f ≡ (in_group doc r n f && meets doc w f)
    number_in n f e = sym (not_nil doc f e (under doc (meets doc w) r n f)) ∙ under-in n f

    module _ (f : ℕ) (here : meets doc w f ≡ true) where
      -- what ends by the begin of f meets the window exactly where it ends after the first day
      early : (h : ℕ) → is_version doc h ≡ true → doc.end h ≤ doc.begin f → meets doc w h ≡ ltb w.from (doc.end h)
      unfolding meets
      early h k e =
          let s = simp says at here in
          let b : is_version doc h && ltb (doc.begin h) w.to ≡ true = simp says (simp says at k, omega (arith, lasting doc r ok h k)) in
          rw b

      -- what lies between g and f meets it where g does
      between : (n g h : ℕ) → w.from < doc.end g → doc.end g ≤ doc.begin h → doc.end h ≤ doc.begin f
          → under doc (meets doc w) r n h && not (is_nil doc h) ≡ (under doc always r n h && not (is_nil doc h))
      between n g h l a b =
          under-in n h
          ∙ and_same (in_group doc r n h) (meets doc w h) true
          (λ t. let k = group_version doc r n h t in early h k b ∙ (simp says (omega (arith, lasting doc r ok h k))))
          ∙ and-true (in_group doc r n h) ∙ sym (under-ever n h)

      -- h parts g and f, presence being p
      abbrev parts : (ℕ → Bool) → ℕ → ℕ → ℕ → Bool
      parts p n g h = leb (doc.end g) (doc.begin h) && leb (doc.end h) (doc.begin f) && under doc p r n h && not (is_nil doc h)

      parted_in : (n g : ℕ) → ltb w.from (doc.end g) ≡ true → any (parts (meets doc w) n g) 0 doc.size ≡ any (parts always n g) 0 doc.size
      parted_in n g l =
          any_same _ _ 0 doc.size
          (λ h _ _.
          behind (leb (doc.end g) (doc.begin h) && leb (doc.end h) (doc.begin f)) (under doc (meets doc w) r n h) (under doc always r n h) (not (is_nil doc h))
          (λ t. let s = simp says at t in between n g h (simp says at l) s.0 s.1))

      follows-in : (n g : ℕ) → follows doc (meets doc w) r n g f ≡ (follows doc always r n g f && ltb w.from (doc.end g))
      unfolding follows
      follows-in n g =
          let near = is_number doc g && leb (doc.end g) (doc.begin f) in
          let now = any (parts (meets doc w) n g) 0 doc.size in
          let ever = any (parts always n g) 0 doc.size in
          ap (λ b. b && not now) (and_same near (under doc (meets doc w) r n g) (in_group doc r n g && meets doc w g) (λ a. number_in n g (simp says at a).0))
          ∙ late near (in_group doc r n g) (meets doc w g) (ltb w.from (doc.end g)) now ever
          (λ a i. early g (group_version doc r n g i) (simp says at a).1) (λ a l. parted_in n g l)
          ∙ sym (ap (λ b. b && not ever && ltb w.from (doc.end g)) (and_same near (under doc always r n g) (in_group doc r n g) (λ a. number-ever n g (simp says at a).0)))

      wrong-in : (n : ℕ) → not (is_number doc f) || any (jumps doc (meets doc w) r n f) 0 doc.size ≡ wrong_under doc r f w.from n
      unfolding wrong_under jumps
      wrong-in n =
          ap (λ b. not (is_number doc f) || b)
          (any_same _ _ 0 doc.size
          (λ g _ _.
          let out : Bool = not (within r (doc.value f -ℤ doc.value g)) in
          ap (λ b. out && b) (follows-in n g) ∙ sym (and_assoc out (follows doc always r n g f) (ltb w.from (doc.end g)))))

    -- THE LAW of a datatype in a window
    pub datatype-in_lem : (f : ℕ) → any (datatype_in doc (meets doc w) r f) 0 doc.size ≡ (wrong_after doc r f w.from && meets doc w f)
    unfolding datatype_in wrong_after
    datatype-in_lem f =
        any_same _ (λ v. (in_row doc r v f && wrong_under doc r f w.from (number_of doc v)) && meets doc w f) 0 doc.size
        (λ v _ _.
        rw (row-present doc r known (meets doc w) (meets-row doc r ok w) v f)
        (last_of (in_row doc r v f) (meets doc w f) _ _ (λ here. wrong-in f here (number_of doc v))))
        ∙ any-and (λ v. in_row doc r v f && wrong_under doc r f w.from (number_of doc v)) (meets doc w f) doc.size

    pub offends-in_lem : (q : Rule) (f : ℕ) → r.kind ≡ 5 → offends_in doc (meets doc w) w q r f ≡ (wrong_after doc r f w.from && meets doc w f)
    unfolding offends_in by_kind breaks_in
    offends-in_lem q f k = ap (breaks_in doc (meets doc w) w q r f) k ∙ datatype-in_lem f
