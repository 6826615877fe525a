-- The least level that was asked for.
use Rattle.std.proofs.Common.{◌≡◌, ◌∙◌, ◌≤◌, ◌<◌, ◌⊎◌, inl, inr, sym, ap, subst, ℕ, List, map, length, get_or, Option, Some, None, IfSome, Contains, arith}
use Rattle.std.proofs.lemmas.List.{get_or_default, get_or-map, length-map}
use Rattle.sx_slots.specs.Slots.{IsLastWith}
use Rattle.sx_earley.specs.declared.ask.Ask.{Ask}
use Rattle.sx_earley.specs.AskSet.{ask_hash, IsBeside, IsLevelReached, IsLeastWithOther, IsLeastLevel}
use Rattle.sx_earley.proofs.Asking.{same_hash}
use Rattle.sx_earley.proofs.Passing.{ArePassed, passed_first, passed_next, passed_on}

-- one of the asks beside this has the level
abbrev pub HasLevel : List Ask → Ask → ℕ → Type 0
HasLevel asks ask m = (other : Ask) × Contains asks other × IsBeside other ask × (other.least ≡ m)

-- the least level with that of one more ask is that of one of them
level_there : (asks : List Ask) (ask other : Ask) (least next : Option ℕ) → IsLeastWithOther ask least other next → IfSome least (HasLevel asks ask) → Contains asks other → IfSome next (HasLevel asks ask)
level_there asks ask other least None step some there = tt
level_there asks ask other least (Some m) step some there = by ((step m).0 (omega arith))
  where
    before : (o : Option ℕ) → ((level : ℕ) → IsLevelReached o level → m ≤ level) → IfSome o (HasLevel asks ask) → IsLevelReached o m → HasLevel asks ask m
    before None bound some r = absurd r
    before (Some k) bound some r = (let e : k ≡ m = (let l = bound k (omega arith) in omega arith) in subst (HasLevel asks ask) e some)

    by : IsLevelReached least m ⊎ (IsBeside other ask × (other.least ≤ m)) → HasLevel asks ask m
    by (inl r) = before least (λ level l. (step level).1 (inl l)) some r
    by (inr h) = (other, there, h.0, (let l : m ≤ other.least = (step other.least).1 (inr (h.0, omega arith)) in let k = h.1 in omega arith))

-- the level of the ask with the number is no lower, if it is beside this
abbrev pub IsTold : List Ask → Ask → Option ℕ → ℕ → Type 0
IsTold asks ask least n = IsBeside (get_or asks n ask) ask → IsLevelReached least (get_or asks n ask).least

-- the least level of those with the hash behind here
pub record IsLeastSo (asks : List Ask) (hashes : List ℕ) (ask : Ask) (hash : ℕ) (least here : Option ℕ) : Type 0 where
  pub bound : ArePassed hashes (IsTold asks ask least) hash here
  pub some : IfSome least (HasLevel asks ask)

module _ (asks : List Ask) (hashes : List ℕ) (hashed : hashes ≡ map ask_hash asks) (ask : Ask) (hash : ℕ) (same : hash ≡ ask_hash ask) where
  abbrev So : Option ℕ → Option ℕ → Type 0
  So = IsLeastSo asks hashes ask hash

  many : length hashes ≡ length asks
  many = ap length hashed ∙ length-map asks ask_hash

  pub least_first : (answer : Option ℕ) → IsLastWith hashes (length hashes) hash answer → So None answer
  least_first answer last = record { bound = passed_first hashes (IsTold asks ask None) hash answer last; some = tt }

  pub least_next : (n : ℕ) (other : Ask) (least next answer : Option ℕ) → So least (Some n) → other ≡ get_or asks n other → IsLeastWithOther ask least other next →
      IsLastWith hashes n (get_or hashes n 0) answer → So next answer
  least_next n other least next answer so at step last = record {
    bound = passed_next hashes (IsTold asks ask next) hash n answer
        (passed_on hashes (IsTold asks ask least) (IsTold asks ask next) hash (Some n) (λ i told b. (step (get_or asks i ask).least).1 (inl (told b))) so.bound)
        (λ b. (step (get_or asks n ask).least).1 (inr (subst (λ (a : Ask). IsBeside a ask) is b, (let e = ap (λ (a : Ask). a.least) is in omega arith)))) last;
    some = level_there asks ask other least next step so.some (n, low, sym at);
  }
    where
      low : n < length asks
      low = let short = so.bound.0 in let m = many in omega arith

      is : get_or asks n ask ≡ other
      is = get_or_default asks n ask other low ∙ sym at

  pub least_all : (least : Option ℕ) → So least None → IsLeastLevel asks ask least
  least_all least so = record {
    bound = λ other there beside.
        let at : get_or asks there.0 ask ≡ other = get_or_default asks there.0 ask other there.1 ∙ there.2 in
        let hash_is : get_or hashes there.0 0 ≡ hash = ap (λ hs. get_or hs there.0 0) hashed ∙ get_or-map ask_hash asks there.0 ask 0 there.1 ∙ ap ask_hash at ∙
        same_hash other ask beside ∙ sym same in
        subst (λ (a : Ask). IsLevelReached least a.least) at
        (so.bound there.0 (let low = there.1 in let m = many in omega arith) hash_is (subst (λ (a : Ask). IsBeside a ask) (sym at) beside));
    some = so.some;
  }
