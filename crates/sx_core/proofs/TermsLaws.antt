-- Rows of core texts.
use Rattle.std.proofs.Common.{◌≡◌, ℕ, zero, suc, ◌+◌, ◌-◌, ◌<◌, ◌≤◌, length, map, drop, take, get_or, true, false, Err, List, [], ◌∷◌, ◌++◌, refl, ap, ◌∙◌, sym, subst, arith, append_assoc, append-nil}
use Rattle.std.proofs.lemmas.List.{take-append-drop, take_all, length-append}
use Rattle.std.proofs.Math.Seq.{drop-append_seam, take-append_seam}
use Rattle.sx_term.specs.declared.term.Term.{Term}
use Rattle.sx_term.specs.Tree.{Tree, depth_of}
use Rattle.sx_term.specs.Term.{tree}
use Rattle.sx_term.specs.Core.{core, HasCore, NoDigit}
use Rattle.sx_term.specs.Reading.{IsStuck, IsLongest, Want}
use Rattle.std.specs.Prelude.{◌==◌}
use Rattle.sx_term.specs.declared.core_error.CoreError.{CoreError}
use Rattle.sx_term.specs.declared.core_error.CoreError.TheVariants.{BadCore, TooDeep as CoreDeep}
use Rattle.sx_term.specs.declared.core_error.CoreError.TheVariants.{Memory as NoRoom}
use Rattle.sx_term.specs.Read.{StandsAt, IsTermRead}
use Rattle.sx_term.proofs.OneReading.{one_reading, read_again}
use Rattle.sx_core.specs.declared.terms_row.RowError.{RowError}
use Rattle.sx_core.specs.declared.terms_row.RowError.TheVariants.{Memory, Shape, TooDeep}
use Rattle.sx_rules.specs.Deep.{AreShallow}
use Rattle.sx_core.specs.TermsText.{row_error, terms_text, HaveCores, OneRead, OneRefused, RowRead}
use Rattle.sx_core.specs.TermsText.{IsDeepRow, RefusedAs}

head_is : (a b : ℕ) (x y : List ℕ) → a ∷ x ≡ b ∷ y → a ≡ b
head_is a b x y e = cc

pub tail_is : (a b : ℕ) (x y : List ℕ) → a ∷ x ≡ b ∷ y → x ≡ y
tail_is a b x y e = cc

pub nothing_is : (a : ℕ) (x : List ℕ) → [] ≡ a ∷ x → ⊥
nothing_is a x e = cc

pub nil_no_digit : NoDigit []
nil_no_digit d z h e = nothing_is (48 + d) z e

pub no_digit_terms : (ts : List Tree) → NoDigit (terms_text ts)
no_digit_terms [] d z h e = nothing_is (48 + d) z e
no_digit_terms (t ∷ ts) d z h e = let q = head_is 32 (48 + d) (core t ++ terms_text ts) z e in absurd (omega arith)

wants : (u : Tree) → HasCore u → Want 0 (core u)
wants u h = (u, h, [], sym (append-nil (core u)), refl)

no_less : (n : ℕ) → n - 0 ≡ n
no_less n = omega arith

both_ways : (a b : ℕ) → a ≤ b → b ≤ a → a ≡ b
both_ways a b h k = omega (arith, h, k)

take_length : (n : ℕ) (xs : List ℕ) → n ≤ length xs → length (take n xs) ≡ n
take_length zero xs h = refl
take_length (suc n) [] h = absurd (omega arith)
take_length (suc n) (x ∷ xs) h = let k = take_length n xs (omega arith) in omega arith

-- the only term whose text stands there
module _ (bytes : List ℕ) (to : ℕ) (t : Tree) (s : StandsAt bytes 0 to t) where
  the_text : take to bytes ≡ core t
  the_text = subst (λ (n : ℕ). take n bytes ≡ core t) (no_less to) s.text

  the_longest : IsLongest (Want 0) bytes to
  the_longest = subst (λ (n : ℕ). IsLongest (Want 0) bytes n) (no_less to) s.longest

  pub stands_within : to ≤ length bytes
  stands_within = the_longest.within

  one_length : (u : Tree) (more : List ℕ) → HasCore u → NoDigit more → bytes ≡ core u ++ more → to ≡ length (core u)
  one_length u more h n e =
      both_ways to (length (core u))
      (subst (λ (k : ℕ). k ≤ length (core u)) (take_length to bytes stands_within)
      ((read_again u more h n).longest (take to bytes) (drop to bytes) the_longest.text (sym e ∙ sym (take-append-drop to bytes))))
      (the_longest.longest (core u) more (wants u h) e)

  pub one_only : (u : Tree) (more : List ℕ) → HasCore u → NoDigit more → bytes ≡ core u ++ more → (u ≡ t) × (more ≡ drop to bytes)
  one_only u more h n e =
      let l = one_length u more h n e in
      let c : core u ≡ core t = sym (take-append_seam (core u) more) ∙ sym (ap (take (length (core u))) e) ∙ ap (λ k. take k bytes) (sym l) ∙ the_text in (
        (one_reading u t [] [] h s.has_core nil_no_digit nil_no_digit (ap (λ x. x ++ []) c)).0,
        sym (drop-append_seam (core u) more) ∙ sym (ap (drop (length (core u))) e) ∙ ap (λ k. drop k bytes) (sym l),
      )

  the_parts : bytes ≡ core t ++ drop to bytes
  the_parts = sym (take-append-drop to bytes) ∙ ap (λ x. x ++ drop to bytes) the_text

  pub stands_parts : bytes ≡ core t ++ drop to bytes
  stands_parts = the_parts

  -- no other core text is as long as the longest
  stands_less : (u : Tree) (end : ℕ) → StandsAt bytes 0 end u → end ≤ to
  stands_less u end k =
      let e : take end bytes ≡ core u = subst (λ (n : ℕ). take n bytes ≡ core u) (no_less end) k.text in
      let l : IsLongest (Want 0) bytes end = subst (λ (n : ℕ). IsLongest (Want 0) bytes n) (no_less end) k.longest in
      subst (λ (n : ℕ). n ≤ to) (ap length (sym e) ∙ take_length end bytes l.within)
      (the_longest.longest (core u) (drop end bytes) (wants u k.has_core) (sym (take-append-drop end bytes) ∙ ap (λ x. x ++ drop end bytes) e))

  stands_core : (u : Tree) (end : ℕ) → StandsAt bytes 0 end u → end ≡ to → u ≡ t
  stands_core u end k e =
      let f : take end bytes ≡ core u = subst (λ (n : ℕ). take n bytes ≡ core u) (no_less end) k.text in
      (one_reading u t [] [] k.has_core s.has_core nil_no_digit nil_no_digit (ap (λ x. x ++ []) (sym f ∙ ap (λ n. take n bytes) e ∙ the_text))).0

pub stands_one : (bytes : List ℕ) (to end : ℕ) (t u : Tree) → StandsAt bytes 0 to t → StandsAt bytes 0 end u → u ≡ t
stands_one bytes to end t u s k = stands_core bytes to t s u end k (both_ways end to (stands_less bytes to t s u end k) (stands_less bytes end u k t to s))

module _ (bytes : List ℕ) (to : ℕ) (t : Tree) (s : StandsAt bytes 0 to t) where
  pub one_ok : depth_of t ≤ 1000 → OneRead (32 ∷ bytes) t (drop to bytes)
  one_ok d = (
    s.has_core,
    d,
    ap (λ x. 32 ∷ x) (stands_parts bytes to t s),
    (λ u more h n e. one_only bytes to t s u more h n (tail_is 32 32 bytes (core u ++ more) e)),
    λ u rest end e k. stands_one bytes to end t u s (subst (λ (x : List ℕ). StandsAt x 0 end u) (sym (tail_is 32 32 bytes rest e)) k),
  )

  pub one_deep : (d : ℕ) → d ≡ depth_of t → 1000 < d → OneRefused (32 ∷ bytes) (TooDeep d)
  one_deep d e h = record {
    deep = t;
    rest = bytes;
    end = to;
    parts = refl;
    stands = s;
    is = e;
    over = h;
    only = λ u more g n q. (one_only bytes to t s u more g n (tail_is 32 32 bytes (core u ++ more) q)).0;
  }

pub one_bad : (bytes : List ℕ) (place : ℕ) → IsStuck (Want 0) bytes place → OneRefused (32 ∷ bytes) Shape
one_bad bytes place s u more h e = s.none (core u) more (wants u h) (tail_is 32 32 bytes (core u ++ more) e)

pub one_other : (b : ℕ) (bytes : List ℕ) → (b ≡ 32 → ⊥) → OneRefused (b ∷ bytes) Shape
one_other b bytes k u more h e = k (head_is b 32 bytes (core u ++ more) e)

pub one_none : OneRefused [] Shape
one_none u more h e = nothing_is 32 (core u ++ more) e

-- one more term
terms_snoc : (ts : List Tree) (t : Tree) (after : List ℕ) → terms_text (ts ++ t ∷ []) ++ after ≡ terms_text ts ++ (32 ∷ (core t ++ after))
terms_snoc [] t after = ap (λ x. 32 ∷ (x ++ after)) (append-nil (core t))
terms_snoc (u ∷ ts) t after =
    ap (λ x. 32 ∷ x) (append_assoc (core u) (terms_text (ts ++ t ∷ [])) after ∙ ap (λ x. core u ++ x) (terms_snoc ts t after) ∙ sym (append_assoc (core u) (terms_text ts) (32 ∷ (core t ++ after))))

pub map_snoc : (xs : List Term) (x : Term) → map tree (xs ++ x ∷ []) ≡ map tree xs ++ tree x ∷ []
map_snoc [] x = refl
map_snoc (y ∷ xs) x = ap (λ r. tree y ∷ r) (map_snoc xs x)

cores_snoc : (ts : List Tree) (t : Tree) → HaveCores ts → HasCore t → HaveCores (ts ++ t ∷ [])
cores_snoc [] t h k = (k, tt)
cores_snoc (u ∷ ts) t h k = (h.0, cores_snoc ts t h.1 k)

shallow_snoc : (ts : List Tree) (t : Tree) → AreShallow ts → depth_of t ≤ 1000 → AreShallow (ts ++ t ∷ [])
shallow_snoc [] t h k = (k, tt)
shallow_snoc (u ∷ ts) t h k = (h.0, shallow_snoc ts t h.1 k)

module _ (xs ys : List Term) (x : Term) (e : ys ≡ xs ++ x ∷ []) where
  pub cores_more : HaveCores (map tree xs) → HasCore (tree x) → HaveCores (map tree ys)
  cores_more h k = subst HaveCores (sym (ap (map tree) e ∙ map_snoc xs x)) (cores_snoc (map tree xs) (tree x) h k)

  pub shallow_more : AreShallow (map tree xs) → depth_of (tree x) ≤ 1000 → AreShallow (map tree ys)
  shallow_more h k = subst AreShallow (sym (ap (map tree) e ∙ map_snoc xs x)) (shallow_snoc (map tree xs) (tree x) h k)

  pub text_more : (s left after : List ℕ) → s ≡ terms_text (map tree xs) ++ left → left ≡ 32 ∷ (core (tree x) ++ after) → s ≡ terms_text (map tree ys) ++ after
  text_more s left after p q =
      p ∙ ap (λ r. terms_text (map tree xs) ++ r) q ∙ sym (terms_snoc (map tree xs) (tree x) after) ∙ sym (ap (λ r. terms_text r ++ after) (ap (map tree) e ∙ map_snoc xs x))

-- what is left of any reading
abbrev pub OnlyLeft : List ℕ → ℕ → List ℕ → ℕ → Type 0
OnlyLeft s count left i = (ts : List Tree) → length ts ≡ count → HaveCores ts → s ≡ terms_text ts → (us : List Tree) × (length us + i ≡ count) × HaveCores us × (left ≡ terms_text us) × (AreShallow ts → AreShallow us)

step_left : (count : ℕ) (left after : List ℕ) (i : ℕ) (t : Tree) → i < count → OneRead left t after → (us : List Tree) → length us + i ≡ count → HaveCores us → left ≡ terms_text us
    → (vs : List Tree) × (length vs + (i + 1) ≡ count) × HaveCores vs × (after ≡ terms_text vs) × (AreShallow us → AreShallow vs)
step_left count left after i t h o [] l c e = absurd (omega arith)
step_left count left after i t h o (u ∷ us) l c e =
    (us, omega arith, c.1, sym (o.3 u (terms_text us) c.0 (no_digit_terms us) e).1, λ a. a.1)

pub only_on : (s : List ℕ) (count : ℕ) (left after : List ℕ) (i : ℕ) (t : Tree) → i < count → OneRead left t after → OnlyLeft s count left i → OnlyLeft s count after (i + 1)
only_on s count left after i t h o k ts l c e =
    let w = k ts l c e in
    let v = step_left count left after i t h o w.0 w.1 w.2 w.3 in
    (v.0, v.1, v.2, v.3, λ a. v.4 (w.4 a))

none_left : (count : ℕ) (left : List ℕ) (i : ℕ) → i < count → OneRefused left Shape → (us : List Tree) → length us + i ≡ count → HaveCores us → left ≡ terms_text us → ⊥
none_left count left i h o [] l c e = absurd (omega arith)
none_left count left i h o (u ∷ us) l c e = o u (terms_text us) c.0 e

deep_left : (count : ℕ) (left : List ℕ) (i d : ℕ) (t : Tree) → i < count → d ≡ depth_of t → 1000 < d
    → ((u : Tree) (rest : List ℕ) → HasCore u → NoDigit rest → left ≡ 32 ∷ (core u ++ rest) → u ≡ t)
    → (us : List Tree) → length us + i ≡ count → HaveCores us → left ≡ terms_text us → AreShallow us → ⊥
deep_left count left i d t h de deep only [] l c e a = absurd (omega arith)
deep_left count left i d t h de deep only (u ∷ us) l c e a =
    let q = ap depth_of (only u (terms_text us) c.0 (no_digit_terms us) e) in
    let k = a.0 in
    absurd (omega arith)

-- a text that is too deep, and what is left
abbrev pub OnlyDeepLeft : List ℕ → ℕ → List ℕ → ℕ → Type 0
OnlyDeepLeft s count left i = (d : ℕ) → IsDeepRow s count d → (n : ℕ) × (n + i ≡ count) × IsDeepRow left n d

pub digits_after : (ts : List Tree) (rest : List ℕ) → NoDigit (terms_text ts ++ (32 ∷ rest))
digits_after [] rest d z h e = let q = head_is 32 (48 + d) rest z e in absurd (omega arith)
digits_after (t ∷ ts) rest d z h e = let q = head_is 32 (48 + d) ((core t ++ terms_text ts) ++ (32 ∷ rest)) z e in absurd (omega arith)

deep_step : (left after : List ℕ) (t : Tree) (n d : ℕ) (good : List Tree) (deep : Tree) (rest : List ℕ) (end : ℕ) → OneRead left t after → HaveCores good → AreShallow good → length good < n
    → left ≡ terms_text good ++ (32 ∷ rest) → StandsAt rest 0 end deep → d ≡ depth_of deep → 1000 < d → (m : ℕ) × (m + 1 ≡ n) × IsDeepRow after m d
deep_step left after t zero d good deep rest end o c a f p k is over = absurd (omega arith)
deep_step left after t (suc n) d [] deep rest end o c a f p k is over = let q = ap depth_of (o.4 deep rest end p k) in let w = o.1 in absurd (omega arith)
deep_step left after t (suc n) d (u ∷ us) deep rest end o c a f p k is over =
    let q = o.3 u (terms_text us ++ (32 ∷ rest)) c.0 (digits_after us rest) (p ∙ ap (λ x. 32 ∷ x) (append_assoc (core u) (terms_text us) (32 ∷ rest))) in
    (n, omega arith, record { good = us; deep = deep; rest = rest; end = end; cores = c.1; shallow = a.1; few = omega arith; parts = sym q.1; stands = k; is = is; over = over })

pub deep_on : (s : List ℕ) (count : ℕ) (left after : List ℕ) (i : ℕ) (t : Tree) → OneRead left t after → OnlyDeepLeft s count left i → OnlyDeepLeft s count after (i + 1)
deep_on s count left after i t o k d h =
    let w = k d h in
    let r = w.2 in
    let v = deep_step left after t w.0 d r.good r.deep r.rest r.end o r.cores r.shallow r.few r.parts r.stands r.is r.over in
    let e = w.1 in
    let f = v.1 in
    (v.0, omega arith, v.2)

no_deep_left : (left : List ℕ) (n d : ℕ) (good : List Tree) (deep : Tree) (rest : List ℕ) (end : ℕ) → OneRefused left Shape → HaveCores good → left ≡ terms_text good ++ (32 ∷ rest) → StandsAt rest 0 end deep → ⊥
no_deep_left left n d [] deep rest end o c p k = o deep (drop end rest) k.has_core (p ∙ ap (λ x. 32 ∷ x) (stands_parts rest end deep k))
no_deep_left left n d (u ∷ us) deep rest end o c p k = o u (terms_text us ++ (32 ∷ rest)) c.0 (p ∙ ap (λ x. 32 ∷ x) (append_assoc (core u) (terms_text us) (32 ∷ rest)))

pub row_refused : (s : List ℕ) (count : ℕ) (left : List ℕ) (i : ℕ) (xs : List Term) (x : RowError) → i < count → length xs ≡ i → HaveCores (map tree xs) → AreShallow (map tree xs) → s ≡ terms_text (map tree xs) ++ left → OnlyLeft s count left i → OnlyDeepLeft s count left i
    → OneRefused left x → RefusedAs (RowRead s count) (IsDeepRow s count) x
row_refused s count left i xs Memory h m c a p k j o = tt
row_refused s count left i xs Shape h m c a p k j o = (
  (λ ts r. let w = k ts r.0 r.1 r.3 in none_left count left i h o w.0 w.1 w.2 w.3),
  λ d r. let w = j d r in let q = w.2 in no_deep_left left w.0 d q.good q.deep q.rest q.end o q.cores q.parts q.stands,
)
row_refused s count left i xs (TooDeep d) h m c a p k j o = (
  (λ us r. let w = k us r.0 r.1 r.3 in deep_left count left i d o.deep h o.is o.over o.only w.0 w.1 w.2 w.3 (w.4 r.2)),
  record {
    good = map tree xs;
    deep = o.deep;
    rest = o.rest;
    end = o.end;
    cores = c;
    shallow = a;
    few = subst (λ (n : ℕ). n < count) (sym (length_map xs ∙ m)) h;
    parts = p ∙ ap (λ r. terms_text (map tree xs) ++ r) o.parts;
    stands = o.stands;
    is = o.is;
    over = o.over;
  },
)
  where
    length_map : (ys : List Term) → length (map tree ys) ≡ length ys
    length_map [] = refl
    length_map (y ∷ ys) = let e = length_map ys in omega arith

all_left : (left : List ℕ) (count i : ℕ) → count ≤ i → (left ≡ [] → ⊥) → (us : List Tree) → length us + i ≡ count → left ≡ terms_text us → ⊥
all_left left count i h n [] l e = n e
all_left left count i h n (u ∷ us) l e = absurd (omega arith)

pub row_over : (s : List ℕ) (count : ℕ) (left : List ℕ) (i : ℕ) → count ≤ i → (left ≡ [] → ⊥) → OnlyLeft s count left i → OnlyDeepLeft s count left i → RefusedAs (RowRead s count) (IsDeepRow s count) Shape
row_over s count left i h n k j = (
  (λ ts r. let w = k ts r.0 r.1 r.3 in all_left left count i h n w.0 w.1 w.3),
  λ d r. let w = j d r in let e = w.1 in let f = w.2.few in absurd (omega arith),
)

pub row_read : (s : List ℕ) (count : ℕ) (left : List ℕ) (i : ℕ) (xs : List Term) → i ≡ count → length xs ≡ i → HaveCores (map tree xs) → AreShallow (map tree xs) → s ≡ terms_text (map tree xs) ++ left → left ≡ [] → RowRead s count (map tree xs)
row_read s count left i xs h m c a p e = (length_map xs ∙ m ∙ h, c, a, p ∙ ap (λ r. terms_text (map tree xs) ++ r) e ∙ append-nil (terms_text (map tree xs)))
  where
    length_map : (ys : List Term) → length (map tree ys) ≡ length ys
    length_map [] = refl
    length_map (y ∷ ys) = let e = length_map ys in omega arith

pub front_taken : (xs : List ℕ) (b : ℕ) → 1 ≤ length xs → get_or xs 0 0 ≡ b → xs ≡ b ∷ take (length xs - 1) (drop 1 xs)
front_taken [] b h e = absurd (omega arith)
front_taken (x ∷ xs) b h e =
    let k : length xs ≤ length (x ∷ xs) - 1 = omega arith in
    ap (λ y. y ∷ xs) e ∙ ap (λ z. b ∷ z) (sym (take_all (length (x ∷ xs) - 1) xs k))

pub one_refused : (bytes : List ℕ) (e : CoreError) → IsTermRead bytes 0 (Err e) → OneRefused (32 ∷ bytes) (row_error e)
one_refused bytes (BadCore place) h = one_bad bytes place (subst (λ (n : ℕ). IsStuck (Want 0) bytes n) (no_less place) h.1)
one_refused bytes (CoreDeep depth) h = one_deep bytes h.1 h.0 h.2 depth h.3 h.4
one_refused bytes NoRoom h = tt

pub many_more : (xs ys : List Term) (x : Term) (i : ℕ) → ys ≡ xs ++ x ∷ [] → length xs ≡ i → length ys ≡ i + 1
many_more xs ys x i e m = let a = ap length e in let b = length-append xs (x ∷ []) in omega arith

pub not_nil : (xs : List ℕ) → false ≡ (length xs == 0) → xs ≡ [] → ⊥
not_nil [] h e = let q : false ≡ true = h in cc
not_nil (x ∷ xs) h e = nothing_is x xs (sym e)
