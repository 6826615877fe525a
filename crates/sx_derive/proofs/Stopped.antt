-- Searches that have come to a stop, or to the end.
use Rattle.std.proofs.Common.{◌≡◌, ℕ, zero, suc, ◌-◌, ◌^◌, List, [], ◌∷◌, Ok, Err, refl, sym, ap, ◌∙◌, arith}
use Rattle.std.specs.Prelude.{Result, min}
use Rattle.sx_rules.specs.Rules.{Rule, Hypotheses}
use Rattle.sx_rules.specs.Modes.{Modes}
use Rattle.sx_derive.specs.Resumable.{TakesTries, IsNextOf, SearchesStayStopped}
use Rattle.sx_derive.specs.Walk.{Cause, depth_spent, too_deep, too_big, Event, stop, Answer}
use Rattle.sx_derive.specs.declared.found.Found.{Found}
use Rattle.sx_derive.specs.declared.found.Found.TheVariants.{Next, Paused, Ended}
use Rattle.sx_derive.specs.declared.search.Search.{Search}
use Rattle.sx_derive.specs.declared.search_error.SearchError.{SearchError}
use Rattle.sx_derive.specs.declared.search_error.SearchError.TheVariants.{Memory, DepthSpent as SpentDepth, TooDeep, TooBig}

-- no try is taken where a stop is next
stop_taken : (budget first last : ℕ) (c : Cause) (es rest : List (Event Answer)) (n : ℕ) → TakesTries budget first last (stop c ∷ es) rest n → (n ≡ 0) × (last ≡ first) × (rest ≡ stop c ∷ es)
stop_taken budget first last c es rest zero t = (refl, (let k = t.counted in omega arith), sym t.events)
stop_taken budget first last c es rest (suc n) t = absurd (let q = t.events in cc)

-- nor where nothing is left
end_taken : (budget first last : ℕ) (rest : List (Event Answer)) (n : ℕ) → TakesTries budget first last [] rest n → (n ≡ 0) × (last ≡ first) × (rest ≡ [])
end_taken budget first last rest zero t = (refl, (let k = t.counted in omega arith), sym t.events)
end_taken budget first last rest (suc n) t = absurd (let q = t.events in cc)

module _ (modes : Modes) (rules : List Rule) (hyps : Hypotheses) (budget first last : ℕ) (new : Search) where
  depth_stays : (result : Result Found SearchError) (rest : List (Event Answer)) → IsNextOf modes rules hyps budget first last (stop depth_spent ∷ rest) new result → (result ≡ Err (SpentDepth 3000)) × (last ≡ first)
  depth_stays (Ok (Next d n)) rest (more, t, h) = absurd (let k = (stop_taken budget first last depth_spent rest _ n t).2 in cc)
  depth_stays (Ok Paused) rest (more, t, h) = absurd (let k = (stop_taken budget first last depth_spent rest _ budget t).2 in cc)
  depth_stays (Ok Ended) rest (n, t, h) = absurd (let k = (stop_taken budget first last depth_spent rest _ n t).2 in cc)
  depth_stays (Err (SpentDepth d)) rest (e, (n, more, t, h)) = (ap (λ (k : ℕ). Err (SpentDepth k)) e, (stop_taken budget first last depth_spent rest _ n t).1)
  depth_stays (Err (TooDeep k)) rest (depth, e, (n, more, t, h)) = absurd (let k = (stop_taken budget first last depth_spent rest _ n t).2 in cc)
  depth_stays (Err (TooBig k)) rest (size, e, (n, more, t, h)) = absurd (let k = (stop_taken budget first last depth_spent rest _ n t).2 in cc)
  depth_stays (Err Memory) rest (n, more, t, l, h) = absurd (let k = (stop_taken budget first last depth_spent rest _ n t).0 in omega arith)

  deep_stays : (result : Result Found SearchError) (m : ℕ) (rest : List (Event Answer)) → IsNextOf modes rules hyps budget first last (stop (too_deep m) ∷ rest) new result → (result ≡ Err (TooDeep (min m (2 ^ 64 - 1)))) × (last ≡ first)
  deep_stays (Ok (Next d n)) m rest (more, t, h) = absurd (let k = (stop_taken budget first last (too_deep m) rest _ n t).2 in cc)
  deep_stays (Ok Paused) m rest (more, t, h) = absurd (let k = (stop_taken budget first last (too_deep m) rest _ budget t).2 in cc)
  deep_stays (Ok Ended) m rest (n, t, h) = absurd (let k = (stop_taken budget first last (too_deep m) rest _ n t).2 in cc)
  deep_stays (Err (SpentDepth d)) m rest (e, (n, more, t, h)) = absurd (let k = (stop_taken budget first last (too_deep m) rest _ n t).2 in cc)
  deep_stays (Err (TooDeep k)) m rest (depth, e, (n, more, t, h)) =
      let s = stop_taken budget first last (too_deep m) rest _ n t in
      let q = s.2 in
      let y : depth ≡ m = cc in
      (ap (λ (j : ℕ). Err (TooDeep j)) (e ∙ ap (λ (j : ℕ). min j (2 ^ 64 - 1)) y), s.1)
  deep_stays (Err (TooBig k)) m rest (size, e, (n, more, t, h)) = absurd (let k = (stop_taken budget first last (too_deep m) rest _ n t).2 in cc)
  deep_stays (Err Memory) m rest (n, more, t, l, h) = absurd (let k = (stop_taken budget first last (too_deep m) rest _ n t).0 in omega arith)

  big_stays : (result : Result Found SearchError) (m : ℕ) (rest : List (Event Answer)) → IsNextOf modes rules hyps budget first last (stop (too_big m) ∷ rest) new result → (result ≡ Err (TooBig (min m (2 ^ 64 - 1)))) × (last ≡ first)
  big_stays (Ok (Next d n)) m rest (more, t, h) = absurd (let k = (stop_taken budget first last (too_big m) rest _ n t).2 in cc)
  big_stays (Ok Paused) m rest (more, t, h) = absurd (let k = (stop_taken budget first last (too_big m) rest _ budget t).2 in cc)
  big_stays (Ok Ended) m rest (n, t, h) = absurd (let k = (stop_taken budget first last (too_big m) rest _ n t).2 in cc)
  big_stays (Err (SpentDepth d)) m rest (e, (n, more, t, h)) = absurd (let k = (stop_taken budget first last (too_big m) rest _ n t).2 in cc)
  big_stays (Err (TooDeep k)) m rest (depth, e, (n, more, t, h)) = absurd (let k = (stop_taken budget first last (too_big m) rest _ n t).2 in cc)
  big_stays (Err (TooBig k)) m rest (size, e, (n, more, t, h)) =
      let s = stop_taken budget first last (too_big m) rest _ n t in
      let q = s.2 in
      let y : size ≡ m = cc in
      (ap (λ (j : ℕ). Err (TooBig j)) (e ∙ ap (λ (j : ℕ). min j (2 ^ 64 - 1)) y), s.1)
  big_stays (Err Memory) m rest (n, more, t, l, h) = absurd (let k = (stop_taken budget first last (too_big m) rest _ n t).0 in omega arith)

  end_stays : (result : Result Found SearchError) → IsNextOf modes rules hyps budget first last [] new result → (result ≡ Ok Ended) × (last ≡ first)
  end_stays (Ok (Next d n)) (more, t, h) = absurd (let k = (end_taken budget first last _ n t).2 in cc)
  end_stays (Ok Paused) (more, t, h) = absurd (let k = (end_taken budget first last _ budget t).2 in cc)
  end_stays (Ok Ended) (n, t, h) = (refl, (end_taken budget first last _ n t).1)
  end_stays (Err (SpentDepth d)) (e, (n, more, t, h)) = absurd (let k = (end_taken budget first last _ n t).2 in cc)
  end_stays (Err (TooDeep k)) (depth, e, (n, more, t, h)) = absurd (let k = (end_taken budget first last _ n t).2 in cc)
  end_stays (Err (TooBig k)) (size, e, (n, more, t, h)) = absurd (let k = (end_taken budget first last _ n t).2 in cc)
  end_stays (Err Memory) (n, more, t, l, h) = absurd (let k = (end_taken budget first last _ n t).0 in omega arith)

pub searches_stay_stopped : SearchesStayStopped
searches_stay_stopped modes rules hyps budget first last new result = record {
  depth = depth_stays modes rules hyps budget first last new result;
  deep = deep_stays modes rules hyps budget first last new result;
  big = big_stays modes rules hyps budget first last new result;
  ended = end_stays modes rules hyps budget first last new result;
}
