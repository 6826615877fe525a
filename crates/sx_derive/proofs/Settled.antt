use Rattle.std.proofs.Common.{◌≡◌, Bool, true, false, List, [], ◌∷◌, ◌++◌, ◌⊎◌, inl, inr, Option, Some, None, refl}
use Rattle.sx_arena.specs.Matching.{Assignment}
use Rattle.sx_rules.specs.Orders.{Entry, EntryBefore, IsBefore}
use Rattle.sx_derive.specs.Walk.{Cause, Event, try, give, stop, then_each, when, when_matched, unless_passed}

-- the first of two entry lists is the lesser at the first place where they differ, and they differ
abbrev pub Precedes : List Entry → List Entry → Type 0
Precedes [] bs = ⊥
Precedes (a ∷ xs) [] = ⊥
Precedes (a ∷ xs) (b ∷ bs) = EntryBefore a b ⊎ (a ≡ b) × Precedes xs bs

pub precedes-append : (xs ys us vs : List Entry) → Precedes xs ys → Precedes (xs ++ us) (ys ++ vs)
precedes-append [] ys us vs h = absurd h
precedes-append (a ∷ xs) [] us vs h = absurd h
precedes-append (a ∷ xs) (b ∷ ys) us vs (inl h) = inl h
precedes-append (a ∷ xs) (b ∷ ys) us vs (inr h) = inr (h.0, precedes-append xs ys us vs h.1)

pub precedes_after : (zs xs ys : List Entry) → Precedes xs ys → Precedes (zs ++ xs) (zs ++ ys)
precedes_after [] xs ys h = h
precedes_after (z ∷ zs) xs ys h = inr (refl, precedes_after zs xs ys h)

pub precedes_before : (xs ys : List Entry) → Precedes xs ys → IsBefore xs ys
precedes_before [] ys h = absurd h
precedes_before (a ∷ xs) [] h = absurd h
precedes_before (a ∷ xs) (b ∷ ys) (inl h) = inl h
precedes_before (a ∷ xs) (b ∷ ys) (inr h) = inr (h.0, precedes_before xs ys h.1)

-- each thing given before the first stop is B
abbrev pub Passes : {A : Type 0} → (A → Type 0) → List (Event A) → Type 0
Passes B [] = Unit {0}
Passes B (try ∷ es) = Passes B es
Passes B (stop c ∷ es) = Unit {0}
Passes B (give a ∷ es) = B a × Passes B es

-- a stop or a thing that is I is met, and each thing given before that is B
abbrev pub Settle : {A : Type 0} → (A → Type 0) → (A → Type 0) → List (Event A) → Type 0
Settle B I [] = ⊥
Settle B I (try ∷ es) = Settle B I es
Settle B I (stop c ∷ es) = Unit {0}
Settle B I (give a ∷ es) = I a ⊎ B a × Settle B I es

module _ {A : Type 0} (B : A → Type 0) where
  pub passes-append : (es fs : List (Event A)) → Passes B es → Passes B fs → Passes B (es ++ fs)
  passes-append [] fs p q = q
  passes-append (try ∷ es) fs p q = passes-append es fs p q
  passes-append (stop c ∷ es) fs p q = tt
  passes-append (give a ∷ es) fs p q = (p.0, passes-append es fs p.1 q)

  pub passes-when : (b : Bool) (es : List (Event A)) → Passes B es → Passes B (when b es)
  passes-when true es p = p
  passes-when false es p = tt

  pub passes-when_matched : (r : Option Assignment) (f : Assignment → List (Event A)) → ((env : Assignment) → Passes B (f env)) → Passes B (when_matched r f)
  passes-when_matched None f p = tt
  passes-when_matched (Some env) f p = p env

  pub passes-unless_passed : (c : Option Cause) (es : List (Event A)) → Passes B es → Passes B (unless_passed c es)
  passes-unless_passed None es p = p
  passes-unless_passed (Some c) es p = tt

  module _ (I : A → Type 0) where
    pub settle_left : (es fs : List (Event A)) → Settle B I es → Settle B I (es ++ fs)
    settle_left [] fs h = absurd h
    settle_left (try ∷ es) fs h = settle_left es fs h
    settle_left (stop c ∷ es) fs h = tt
    settle_left (give a ∷ es) fs (inl h) = inl h
    settle_left (give a ∷ es) fs (inr h) = inr (h.0, settle_left es fs h.1)

    pub settle_right : (es fs : List (Event A)) → Passes B es → Settle B I fs → Settle B I (es ++ fs)
    settle_right [] fs p h = h
    settle_right (try ∷ es) fs p h = settle_right es fs p h
    settle_right (stop c ∷ es) fs p h = tt
    settle_right (give a ∷ es) fs p h = inr (p.0, settle_right es fs p.1 h)

    pub settle-when : (b : Bool) (es : List (Event A)) → b ≡ true → Settle B I es → Settle B I (when b es)
    settle-when true es e h = h
    settle-when false es e h = cc

    pub settle-when_matched : (r : Option Assignment) (f : Assignment → List (Event A)) (env : Assignment) → r ≡ Some env → Settle B I (f env) → Settle B I (when_matched r f)
    settle-when_matched None f env e h = cc
    settle-when_matched (Some more) f env e h = let q : env ≡ more = cc in subst_list q
      where
        subst_list : env ≡ more → Settle B I (f more)
        subst_list q = rw q at h

    pub settle-unless_passed : (c : Option Cause) (es : List (Event A)) → Settle B I es → Settle B I (unless_passed c es)
    settle-unless_passed None es h = h
    settle-unless_passed (Some c) es h = tt

module _ {A C : Type 0} (B' : C → Type 0) (f : A → List (Event C)) where
  pub passes-then_each : (es : List (Event A)) → ((a : A) → Passes B' (f a)) → Passes B' (then_each f es)
  passes-then_each [] h = tt
  passes-then_each (try ∷ es) h = passes-then_each es h
  passes-then_each (stop c ∷ es) h = tt
  passes-then_each (give a ∷ es) h = passes-append B' (f a) (then_each f es) (h a) (passes-then_each es h)

  pub settle-then_each : (B I : A → Type 0) (I' : C → Type 0) (es : List (Event A)) → Settle B I es →
      ((a : A) → I a → Settle B' I' (f a)) → ((a : A) → B a → Passes B' (f a)) → Settle B' I' (then_each f es)
  settle-then_each B I I' [] h i b = absurd h
  settle-then_each B I I' (try ∷ es) h i b = settle-then_each B I I' es h i b
  settle-then_each B I I' (stop c ∷ es) h i b = tt
  settle-then_each B I I' (give a ∷ es) (inl h) i b = settle_left B' I' (f a) (then_each f es) (i a h)
  settle-then_each B I I' (give a ∷ es) (inr h) i b =
      settle_right B' I' (f a) (then_each f es) (b a h.0) (settle-then_each B I I' es h.1 i b)
