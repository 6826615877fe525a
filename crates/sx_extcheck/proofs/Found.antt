-- What a search finds, and how it ends without an answer.
use Rattle.std.proofs.Common.{◌≡◌, ℕ, zero, suc, ◌-◌, ◌≤◌, Bool, true, false, List, [], ◌∷◌, Option, Some, subst}
use Rattle.std.specs.Prelude.{Err}
use Rattle.sx_term.specs.Tree.{Tree}
use Rattle.sx_rules.specs.Derivations.{height_of, AreShallow, HasShallowBinds}
use Rattle.sx_rules.specs.EntryView.{entries}
use Rattle.sx_rules.specs.First.{Answer}
use Rattle.sx_derive.specs.Deriving.{answer_of, IsToldBy}
use Rattle.sx_derive.specs.declared.derive_error.DeriveError.{DeriveError}
use Rattle.sx_derive.specs.declared.derive_error.DeriveError.TheVariants.{Memory, Underivable}
use Rattle.sx_derive.specs.declared.derive_error.DeriveError.TheVariants.{BudgetSpent, DepthSpent}
use Rattle.sx_derive.specs.declared.derive_error.DeriveError.TheVariants.{TooDeep, TooBig}
use Rattle.sx_derive.specs.declared.derived.Derived.{Derived}
use Rattle.sx_derive.specs.declared.listed.Listed.{Listed}
use Rattle.sx_derive.specs.Listing.{SaysList}
use Rattle.sx_derive.specs.Search.{Ending, EachGiven, found, are_wanted, found_when, walk}
use Rattle.sx_derive.specs.Walk.{Event, try, give, stop, events}
use Rattle.sx_derive.proofs.Bounded.{answers_are_bounded}
use Rattle.sx_extcheck.specs.Searches.{Search, ending_of, IsShallowSearch, IsSearchedBy, FindsProof}
use Rattle.sx_extcheck.specs.Searches.{FindsList, search_defect}

-- what is found is given
found-now : (P : Answer → Type 0) (wanted : Option (List Tree)) (budget : ℕ) (a : Answer) (es : List (Event Answer)) (b : Answer) (w : Bool) → P a → (walk wanted budget es ≡ found b → P b) →
    found_when w a (walk wanted budget es) ≡ found b → P b
found-now P wanted budget a es b true here later e = let same : a ≡ b = cc in subst P same here
found-now P wanted budget a es b false here later e = later e

found-given : (P : Answer → Type 0) (wanted : Option (List Tree)) (budget : ℕ) (es : List (Event Answer)) (b : Answer) → EachGiven P es → walk wanted budget es ≡ found b → P b
found-given P wanted budget [] b h e = cc
found-given P wanted zero (try ∷ es) b h e = cc
found-given P wanted (suc budget) (try ∷ es) b h e = found-given P wanted budget es b h e
found-given P wanted zero (stop c ∷ es) b h e = cc
found-given P wanted (suc budget) (stop c ∷ es) b h e = cc
found-given P wanted zero (give a ∷ es) b h e = found-now P wanted zero a es b (are_wanted wanted a.1) h.0 (λ q. found-given P wanted zero es b h.1 q) e
found-given P wanted (suc budget) (give a ∷ es) b h e = found-now P wanted (suc budget) a es b (are_wanted wanted a.1) h.0 (λ q. found-given P wanted (suc budget) es b h.1 q) e

-- an answer that is found is within the limits of derivations
module _ (s : Search) (tries : ℕ) (h : IsShallowSearch s) (a : Answer) (e : ending_of s tries ≡ found a) where
  found-bounded : (height_of a.0 ≤ 3001 - 1) × HasShallowBinds a.0 × AreShallow a.1
  found-bounded =
      let given = answers_are_bounded s.modes s.rules s.hyps h.holds s.goal 1 h.goal in
      found-given (λ a. (height_of a.0 ≤ 3001 - 1) × HasShallowBinds a.0 × AreShallow a.1) (Some s.wanted) tries (events s.modes s.rules s.hyps s.goal 1) a given e

-- so is the derivation that is found
pub found-searched : (s : Search) (tries : ℕ) → IsShallowSearch s → (d : Derived) → ending_of s tries ≡ found (answer_of d) → FindsProof s tries d.proof
found-searched s tries h d e =
    let k = found-bounded s tries h (answer_of d) e in
    (((answer_of d).1, e), k.0, k.1)

-- and the one whose list is found
pub found-listed : (s : Search) (tries : ℕ) → IsShallowSearch s → (l : Listed) → SaysList l (ending_of s tries) → (a : Answer) × FindsList s tries (entries l.entries.items) a
found-listed s tries h l (a, e, lists) =
    let k = found-bounded s tries h a e in
    (a, record { ends = e; list_is = lists.entries; low = k.0; binds = k.1; near = k.2 })

-- a search without an answer
pub ended-searched : {X Y : Type 0} (Says : X → Ending → Type 0) (Finds : Y → Type 0) (s : Search) (tries : ℕ) (e : DeriveError) →
    IsToldBy Says s.modes s.subjects s.rules s.hyps s.goal tries (ending_of s tries) (Err e) → IsSearchedBy Finds s tries (Err (search_defect e))
ended-searched Says Finds s tries Memory h = tt
ended-searched Says Finds s tries (Underivable b) h = h
ended-searched Says Finds s tries (BudgetSpent n) h = h
ended-searched Says Finds s tries (DepthSpent n) h = h
ended-searched Says Finds s tries (TooDeep n) h = h
ended-searched Says Finds s tries (TooBig n) h = h
