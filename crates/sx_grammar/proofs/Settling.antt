-- Settling one rule after another.
use Rattle.std.proofs.Common.{◌≡◌, ℕ, zero, suc, ◌+◌, ◌<◌, ◌≤◌, List, [], ◌∷◌, ◌++◌, ◌⊎◌, inl, inr, ⊎_elim, Some, None, Option, ap, refl, sym, subst, ◌∙◌, length, set, get_or, Vec, arith, cond, Contains, length-append}
use Rattle.std.specs.declared.alloc.Global.{Global}
use Rattle.std.specs.Prelude.{slice_get, count_by, is_none}
use Rattle.std.proofs.lemmas.Bool.{cases_eq, cases_lt}
use Rattle.std.proofs.lemmas.List.{length-set, get_or-set_same, get_or-set_other}
use Rattle.std.proofs.lemmas.List.Sums.{sum_by-set, sum_by-cons}
use Rattle.std.proofs.lemmas.List.Elements.{Contains-push, Contains-push_cases, Contains-append_left}
use Rattle.std.proofs.lemmas.Option.{slice_get_within, slice_get-get_or, get_or_from_slice_get}
use Rattle.sx_grammar.specs.declared.rule.Rule.{Rule}
use Rattle.sx_grammar.specs.declared.progress.Waiting.{Waiting}
use Rattle.sx_grammar.specs.declared.progress.Progress.{Progress}
use Rattle.sx_grammar.specs.Ranks.{rank_in, HasRank, AreRankedTo, IsComplete, HasRanksBelow}
use Rattle.sx_grammar.specs.Ranks.{waiting_at, IsBlank, IsLearnt, IsWaitingPut, IsWaitingTaken}
use Rattle.sx_grammar.specs.Settled.{IsWaiting, IsSound, IsSoundAt, IsSettled, Keeps, Settles}
use Rattle.sx_grammar.specs.Settled.{SettlesTo, Goes}
use Rattle.sx_grammar.proofs.Stepping.{same_at}
use Rattle.sx_grammar.proofs.Places.{got_push, got_kept, got_last}

pub rank_within : (ranks : List (Option ℕ)) (x n : ℕ) → rank_in ranks x ≡ Some n → x < length ranks
rank_within [] x n e = let clash : None ≡ Some n = e in cc
rank_within (r ∷ rs) zero n e = omega arith
rank_within (r ∷ rs) (suc x) n e = let h = rank_within rs x n e in omega (arith, h)

-- 1 for no rank
abbrev weight : Option ℕ → ℕ
weight o = cond (is_none o) 1 0

all_none : (ranks : List (Option ℕ)) → ((x : ℕ) → rank_in ranks x ≡ None) → count_by is_none ranks ≡ length ranks
all_none [] none = refl
all_none (None ∷ rs) none = let h = all_none rs (λ x. none (suc x)) in omega (arith, h, sum_by-cons weight None rs)
all_none (Some n ∷ rs) none = let clash : Some n ≡ None = none zero in cc

some_same : (m n : ℕ) → Some m ≡ Some n → m ≡ n
some_same m n e = cc

rank_kept : (ranks : List (Option ℕ)) (number m : ℕ) → rank_in ranks number ≡ None → Keeps ranks (set ranks number (Some m))
rank_kept ranks number m none x n e = elim (cases_eq x number) [
  | inl same ↦ (let clash : None ≡ Some n = sym none ∙ ap (rank_in ranks) (sym same) ∙ e in cc)
  | inr apart ↦ get_or-set_other ranks number x (Some m) None apart ∙ e
]

rank_cases : (ranks : List (Option ℕ)) (number m x n : ℕ) → number < length ranks → rank_in (set ranks number (Some m)) x ≡ Some n → (rank_in ranks x ≡ Some n) ⊎ ((x ≡ number) × (m ≡ n))
rank_cases ranks number m x n within e = elim (cases_eq x number) [
  | inl same ↦ inr (same, some_same m n (sym (get_or-set_same ranks number (Some m) None within) ∙ ap (rank_in (set ranks number (Some m))) (sym same) ∙ e))
  | inr apart ↦ inl (sym (get_or-set_other ranks number x (Some m) None apart) ∙ e)
]

pub ranked_on : (old new : List (Option ℕ)) (needs : List ℕ) (place : ℕ) → Keeps old new → AreRankedTo old needs place → AreRankedTo new needs place
ranked_on old new needs place kept are k x lt at = let has = are k x lt at in (has.0, kept x has.0 has.1)

pub settled_on : (rules : List Rule) (old new : List (Option ℕ)) (before after : List (Vec Waiting Global)) (i : ℕ) → Keeps old new
    → ((x : ℕ) (w : Waiting) → Contains (waiting_at before x) w → Contains (waiting_at after x) w) → IsSettled rules old before i → IsSettled rules new after i
settled_on rules old new before after i kept stay is r at = ⊎_elim (λ has. inl (has.0, kept r.head has.0 has.1)) (λ waits. inr (waits.0, waits.1, stay waits.0 waits.1 waits.2, waits.3)) (is r at)

-- the head of a rule all of whose needs have ranks gets the next one
learn_sound : (rules : List Rule) (ranks : List (Option ℕ)) (order : List ℕ) (waiting : List (Vec Waiting Global)) (i : ℕ) (r : Rule) → IsSound rules ranks order waiting
    → slice_get rules i ≡ Some r → AreRankedTo ranks r.needs.items (length r.needs.items) → r.head < length ranks → rank_in ranks r.head ≡ None
    → IsSound rules (set ranks r.head (Some (length order))) (order ++ r.head ∷ []) waiting
learn_sound rules ranks order waiting i r h at all within none =
    let m = length order in
    let kept = rank_kept ranks r.head m none in
    record {
      ordered = λ n x got. ⊎_elim (λ was. kept x n (h.ordered n x was))
          (λ last. ap (rank_in (set ranks r.head (Some m))) (sym last.1) ∙ get_or-set_same ranks r.head (Some m) None within ∙ ap Some (sym last.0)) (got_push order r.head x n got);
      ranked = λ n x e. ⊎_elim (λ was. got_kept order r.head x n (h.ranked n x was))
          (λ new. ap (slice_get (order ++ r.head ∷ [])) (sym new.1) ∙ got_last order r.head ∙ ap Some (sym new.0)) (rank_cases ranks r.head m x n within e);
      founded = λ x n e. ⊎_elim
          (λ was. let f = h.founded x n was in (f.0, f.1, f.2, f.3, λ k y got. let low = f.4 k y got in (low.0, kept y low.0 low.1, low.2)))
          (λ new. (
            i,
            r,
            at,
            sym new.0,
            λ k y got. let has = all k y (slice_get_within r.needs.items k y got) got in
                (has.0, kept y has.0 has.1, (let low = slice_get_within order has.0 y (h.ranked has.0 y has.1) in omega (arith, low, new.1))),
          ))
          (rank_cases ranks r.head m x n within e);
      waits = λ x w has. let is = h.waits x w has in (is.0, is.1, is.2, ranked_on ranks (set ranks r.head (Some m)) is.0.needs.items w.place kept is.3);
      lists = h.lists ∙ sym (length-set ranks r.head (Some m));
      room =
          let was : weight (get_or ranks r.head None) ≡ weight None = ap weight none in
          omega (arith, h.room, was, sum_by-set weight ranks r.head (Some m) None within, length-append order (r.head ∷ []), length-set ranks r.head (Some m));
    }

sound_by : (rules : List Rule) (ranks ranks' : List (Option ℕ)) (order order' : List ℕ) (waiting waiting' : List (Vec Waiting Global)) → ranks' ≡ ranks → order' ≡ order → waiting' ≡ waiting
    → IsSound rules ranks order waiting → IsSound rules ranks' order' waiting'
sound_by rules ranks ranks' order order' waiting waiting' e f g h =
    subst (λ r. IsSound rules r order' waiting') (sym e) (subst (λ o. IsSound rules ranks o waiting') (sym f) (subst (IsSound rules ranks order) (sym g) h))

pub learn_settles : (rules : List Rule) (old new : Progress) (i : ℕ) (r : Rule) → IsSoundAt rules old → slice_get rules i ≡ Some r
    → AreRankedTo old.ranks.items r.needs.items (length r.needs.items) → r.head < length old.ranks.items → IsLearnt old new r.head → Settles rules i old new
learn_settles rules old new i r h at all within (same, inl known) = record {
  sound = sound_by rules old.ranks.items new.ranks.items old.order.items new.order.items old.waiting.items new.waiting.items known.1 known.2 same h;
  ranks = ap length known.1;
  kept = λ x n e. ap (λ l. rank_in l x) known.1 ∙ e;
  here = λ s there. let alike = same_at rules i i r s refl at there in inl (known.0.0, ap (λ l. rank_in l s.head) known.1 ∙ ap (λ q. rank_in old.ranks.items q.head) (sym alike) ∙ known.0.1);
  stay = λ x w has. subst (λ l. Contains (waiting_at l x) w) (sym same) has;
  same = λ x has. ap (λ l. waiting_at l x) same;
}
learn_settles rules old new i r h at all within (same, inr news) = record {
  sound = sound_by rules (set old.ranks.items r.head (Some (length old.order.items))) new.ranks.items (old.order.items ++ r.head ∷ []) new.order.items old.waiting.items new.waiting.items news.1 news.2 same
      (learn_sound rules old.ranks.items old.order.items old.waiting.items i r h at all within news.0);
  ranks = ap length news.1 ∙ length-set old.ranks.items r.head (Some (length old.order.items));
  kept = λ x n e. ap (λ l. rank_in l x) news.1 ∙ rank_kept old.ranks.items r.head (length old.order.items) news.0 x n e;
  here = λ s there. let alike = same_at rules i i r s refl at there in
      inl (
        length old.order.items,
        ap (λ l. rank_in l s.head) news.1 ∙ ap (λ q. rank_in (set old.ranks.items r.head (Some (length old.order.items))) q.head) (sym alike)
            ∙ get_or-set_same old.ranks.items r.head (Some (length old.order.items)) None within,
      );
  stay = λ x w has. subst (λ l. Contains (waiting_at l x) w) (sym same) has;
  same = λ x has. ap (λ l. waiting_at l x) same;
}

-- a rule waits for a number without a rank
pub put_settles : (rules : List Rule) (old new : Progress) (i number place : ℕ) (r : Rule) → IsSoundAt rules old → slice_get rules i ≡ Some r → slice_get r.needs.items place ≡ Some number
    → AreRankedTo old.ranks.items r.needs.items place → ¬ (HasRank old.ranks.items number) → IsWaitingPut old new number (record { rule = i; place = place }) → Settles rules i old new
put_settles rules old new i number place r h at need before none put =
    let here : Waiting = record { rule = i; place = place } in
    let stay : (x : ℕ) (w : Waiting) → Contains (waiting_at old.waiting.items x) w → Contains (waiting_at new.waiting.items x) w =
    λ x w has. elim (cases_eq x number) [
      | inl same ↦ subst (λ l. Contains l w) (sym (ap (waiting_at new.waiting.items) same ∙ put.1)) (Contains-append_left (waiting_at old.waiting.items number) (here ∷ []) w (subst (λ x. Contains (waiting_at old.waiting.items x) w) same has))
      | inr apart ↦ subst (λ l. Contains l w) (sym (put.0.others x apart)) has
    ] in
    let there : Contains (waiting_at new.waiting.items number) here = subst (λ l. Contains l here) (sym put.1) (Contains-push (waiting_at old.waiting.items number) here) in
    record {
      sound = sound_by rules old.ranks.items new.ranks.items old.order.items new.order.items new.waiting.items new.waiting.items put.0.ranks put.0.order refl (record {
        ordered = h.ordered;
        ranked = h.ranked;
        founded = h.founded;
        waits = λ x w has. elim (cases_eq x number) [
          | inl same ↦ ⊎_elim (λ was. subst (λ x. IsWaiting rules old.ranks.items x w) (sym same) (h.waits number w was))
              (λ e. subst (λ w. IsWaiting rules old.ranks.items x w) e (r, at, need ∙ ap Some (sym same), before))
              (Contains-push_cases (waiting_at old.waiting.items number) here w (subst (λ l. Contains l w) (ap (waiting_at new.waiting.items) same ∙ put.1) has))
          | inr apart ↦ h.waits x w (subst (λ l. Contains l w) (put.0.others x apart) has)
        ];
        lists = put.0.lists ∙ h.lists;
        room = h.room;
      });
      ranks = ap length put.0.ranks;
      kept = λ x n e. ap (λ l. rank_in l x) put.0.ranks ∙ e;
      here = λ s at. inr (number, here, there, refl);
      stay = stay;
      same = λ x has. put.0.others x (λ same. none (subst (HasRank old.ranks.items) same has));
    }

pub settles_first : (rules : List Rule) (bound : ℕ) (p : Progress) → IsBlank bound p → IsSoundAt rules p
settles_first rules bound p blank = record {
  ordered = λ n x e. (let clash : None ≡ Some x = sym (ap (λ o. slice_get o n) blank.order) ∙ e in cc);
  ranked = λ n x e. (let clash : None ≡ Some n = sym (blank.none x) ∙ e in cc);
  founded = λ x n e. (let clash : None ≡ Some n = sym (blank.none x) ∙ e in cc);
  waits = λ x w has. absurd (omega (arith, has.1, ap length (blank.still x)));
  lists = blank.lists ∙ sym blank.ranks;
  room = omega (arith, all_none p.ranks.items blank.none, ap length blank.order);
}

pub settles_more : (rules : List Rule) (n : ℕ) (old middle new : Progress) → SettlesTo rules n old middle → Settles rules n middle new → SettlesTo rules (n + 1) old new
settles_more rules n old middle new before step = record {
  sound = step.sound;
  ranks = step.ranks ∙ before.ranks;
  all = λ i lt. elim (cases_lt i n) [
    | inl below ↦ settled_on rules middle.ranks.items new.ranks.items middle.waiting.items new.waiting.items i step.kept step.stay (before.all i below)
    | inr above ↦ subst (IsSettled rules new.ranks.items new.waiting.items) (let last : n ≡ i = omega (arith, lt, above) in last) step.here
  ];
}

pub unranked : (ranks : List (Option ℕ)) (x : ℕ) → ¬ (HasRank ranks x) → rank_in ranks x ≡ None
unranked ranks x none = by_cases (rank_in ranks x) refl
  where
    by_cases : (o : Option ℕ) → rank_in ranks x ≡ o → rank_in ranks x ≡ None
    by_cases None e = e
    by_cases (Some n) e = absurd (none (n, e))

pub ranked_more : (ranks : List (Option ℕ)) (needs : List ℕ) (place : ℕ) → AreRankedTo ranks needs place → HasRank ranks (get_or needs place 0) → AreRankedTo ranks needs (place + 1)
ranked_more ranks needs place before here k x lt got = elim (cases_lt k place) [
  | inl below ↦ before k x below got
  | inr above ↦ (
      let last : place ≡ k = omega (arith, lt, above) in
      subst (HasRank ranks) (ap (λ p. get_or needs p 0) last ∙ get_or_from_slice_get needs k x 0 got) here)
]

-- the first need without a rank is here
abbrev pub IsUnranked : List (Option ℕ) → List ℕ → ℕ → Type 0
IsUnranked ranks needs later = (later < length needs) × AreRankedTo ranks needs later × ¬ (HasRank ranks (get_or needs later 0))

-- a search through a copy of the ranks and of the needs
abbrev Finds : List (Option ℕ) → List ℕ → ℕ → ℕ → Type 0
Finds ranks needs place later = AreRankedTo ranks needs place → IsUnranked ranks needs later

abbrev FindsNone : List (Option ℕ) → List ℕ → ℕ → Type 0
FindsNone ranks needs place = AreRankedTo ranks needs place → AreRankedTo ranks needs (length needs)

pub found_in : (seen ranks : List (Option ℕ)) (those needs : List ℕ) (place later : ℕ) → seen ≡ ranks → those ≡ needs → Finds seen those place later → Finds ranks needs place later
found_in seen ranks those needs place later e f finds = subst (λ n. Finds ranks n place later) f (subst (λ r. Finds r those place later) e finds)

pub none_in : (seen ranks : List (Option ℕ)) (those needs : List ℕ) (place : ℕ) → seen ≡ ranks → those ≡ needs → FindsNone seen those place → FindsNone ranks needs place
none_in seen ranks those needs place e f finds = subst (λ n. FindsNone ranks n place) f (subst (λ r. FindsNone r those place) e finds)

pub settles_none : (rules : List Rule) (p : Progress) → IsSoundAt rules p → SettlesTo rules 0 p p
settles_none rules p h = record { sound = h; ranks = refl; all = λ i lt. absurd (omega (arith, lt)) }

pub goes_first : (rules : List Rule) (p : Progress) → IsSoundAt rules p → Goes rules p p
goes_first rules p h = record {
  sound = h;
  ranks = refl;
  kept = λ x n e. e;
  settled = λ i is. is;
  still = λ x has e. e;
}

-- with a rule less that waits, rules still wait for what they need
pub taken_sound : (rules : List Rule) (old new : Progress) (number : ℕ) (w : Waiting) → IsSoundAt rules old → IsWaitingTaken old new number (Some w) → IsSoundAt rules new
taken_sound rules old new number w h taken =
    sound_by rules old.ranks.items new.ranks.items old.order.items new.order.items new.waiting.items new.waiting.items taken.0.ranks taken.0.order refl (record {
      ordered = h.ordered;
      ranked = h.ranked;
      founded = h.founded;
      waits = λ x v has. elim (cases_eq x number) [
        | inl same ↦ h.waits x v (subst (λ l. Contains l v) (sym (ap (waiting_at old.waiting.items) same ∙ taken.1))
            (Contains-append_left (waiting_at new.waiting.items number) (w ∷ []) v (subst (λ x. Contains (waiting_at new.waiting.items x) v) same has)))
        | inr apart ↦ h.waits x v (subst (λ l. Contains l v) (taken.0.others x apart) has)
      ];
      lists = taken.0.lists ∙ h.lists;
      room = h.room;
    })

-- the rule that was taken waited
pub taken_waits : (rules : List Rule) (old new : Progress) (number : ℕ) (w : Waiting) → IsSoundAt rules old → IsWaitingTaken old new number (Some w) → IsWaiting rules old.ranks.items number w
taken_waits rules old new number w h taken = h.waits number w (subst (λ l. Contains l w) (sym taken.1) (Contains-push (waiting_at new.waiting.items number) w))

-- rules stay settled where one is taken and settled
settled_taken : (rules : List Rule) (old middle new : Progress) (number i : ℕ) (w : Waiting) → IsWaitingTaken old middle number (Some w) → Settles rules w.rule middle new
    → IsSettled rules old.ranks.items old.waiting.items i → IsSettled rules new.ranks.items new.waiting.items i
settled_taken rules old middle new number i w taken step is r at = by_cases (is r at)
  where
    waits_on : (x : ℕ) (v : Waiting) → Contains (waiting_at old.waiting.items x) v → v.rule ≡ i → (x ≡ number) ⊎ (x ≡ number → ⊥)
        → HasRank new.ranks.items r.head ⊎ ((x : ℕ) × (w : Waiting) × Contains (waiting_at new.waiting.items x) w × (w.rule ≡ i))
    waits_on x v has e (inl same) = ⊎_elim
        (λ still. inr (number, v, step.stay number v still, e))
        (λ this. subst (IsSettled rules new.ranks.items new.waiting.items) (ap (λ v. v.rule) this ∙ e) step.here r at)
        (Contains-push_cases (waiting_at middle.waiting.items number) w v (subst (λ l. Contains l v) (ap (waiting_at old.waiting.items) same ∙ taken.1) has))
    waits_on x v has e (inr apart) = inr (x, v, step.stay x v (subst (λ l. Contains l v) (sym (taken.0.others x apart)) has), e)

    by_cases : HasRank old.ranks.items r.head ⊎ ((x : ℕ) × (w : Waiting) × Contains (waiting_at old.waiting.items x) w × (w.rule ≡ i))
        → HasRank new.ranks.items r.head ⊎ ((x : ℕ) × (w : Waiting) × Contains (waiting_at new.waiting.items x) w × (w.rule ≡ i))
    by_cases (inl known) = inl (known.0, step.kept r.head known.0 (ap (λ l. rank_in l r.head) taken.0.ranks ∙ known.1))
    by_cases (inr waits) = waits_on waits.0 waits.1 waits.2 waits.3 (cases_eq waits.0 number)

-- a rule is taken and settled
pub goes_more : (rules : List Rule) (start old middle new : Progress) (number : ℕ) (w : Waiting) → HasRank start.ranks.items number → Goes rules start old → IsWaitingTaken old middle number (Some w)
    → Settles rules w.rule middle new → Goes rules start new
goes_more rules start old middle new number w has before taken step = record {
  sound = step.sound;
  ranks = step.ranks ∙ ap length taken.0.ranks ∙ before.ranks;
  kept = λ x n e. step.kept x n (ap (λ l. rank_in l x) taken.0.ranks ∙ before.kept x n e);
  settled = λ i is. settled_taken rules old middle new number i w taken step (before.settled i is);
  still = λ x known none. elim (cases_eq x number) [
    | inl same ↦ (
        let some : length (waiting_at old.waiting.items number) ≡ length (waiting_at middle.waiting.items number) + 1 = omega (arith, ap length taken.1, length-append (waiting_at middle.waiting.items number) (w ∷ [])) in
        let empty = ap length (before.still x known none) in
        absurd (omega (arith, some, empty, ap (λ x. length (waiting_at old.waiting.items x)) same)))
    | inr apart ↦ step.same x (known.0, ap (λ l. rank_in l x) taken.0.ranks ∙ before.kept x known.0 known.1) ∙ taken.0.others x apart ∙ before.still x known none
  ];
}

-- the rules that wait for the number get fewer
pub fewer_wait : (rules : List Rule) (start old middle new : Progress) (number : ℕ) (w : Waiting) → HasRank start.ranks.items number → Goes rules start old → IsWaitingTaken old middle number (Some w)
    → Settles rules w.rule middle new → length (waiting_at new.waiting.items number) < length (waiting_at old.waiting.items number)
fewer_wait rules start old middle new number w has before taken step =
    let same = ap length (step.same number (has.0, ap (λ l. rank_in l number) taken.0.ranks ∙ before.kept number has.0 has.1)) in
    omega (arith, same, ap length taken.1, length-append (waiting_at middle.waiting.items number) (w ∷ []))

-- what the rule that was taken needs before has ranks
pub taken_place : (rules : List Rule) (old new : Progress) (number : ℕ) (w : Waiting) → IsSoundAt rules old → IsWaitingTaken old new number (Some w)
    → (r : Rule) → slice_get rules w.rule ≡ Some r → AreRankedTo new.ranks.items r.needs.items w.place
taken_place rules old new number w h taken r at =
    let waits = taken_waits rules old new number w h taken in
    let alike = same_at rules w.rule w.rule waits.0 r refl waits.1 at in
    subst (λ r. AreRankedTo new.ranks.items r.needs.items w.place) alike
    (ranked_on old.ranks.items new.ranks.items waits.0.needs.items w.place (λ x n e. ap (λ l. rank_in l x) taken.0.ranks ∙ e) waits.3)

-- none was left to take
pub goes_last : (rules : List Rule) (start old new : Progress) (number : ℕ) → Goes rules start old → IsWaitingTaken old new number None → Goes rules start new
goes_last rules start old new number before taken =
    let lists : (x : ℕ) → waiting_at new.waiting.items x ≡ waiting_at old.waiting.items x =
    λ x. elim (cases_eq x number) [
      | inl same ↦ ap (waiting_at new.waiting.items) same ∙ taken.1.1 ∙ sym taken.1.0 ∙ ap (waiting_at old.waiting.items) (sym same)
      | inr apart ↦ taken.0.others x apart
    ] in
    let h = before.sound in
    let kept : Keeps old.ranks.items new.ranks.items = λ x n e. ap (λ l. rank_in l x) taken.0.ranks ∙ e in
    record {
      sound = sound_by rules old.ranks.items new.ranks.items old.order.items new.order.items new.waiting.items new.waiting.items taken.0.ranks taken.0.order refl (record {
        ordered = h.ordered;
        ranked = h.ranked;
        founded = h.founded;
        waits = λ x v has. h.waits x v (subst (λ l. Contains l v) (lists x) has);
        lists = taken.0.lists ∙ h.lists;
        room = h.room;
      });
      ranks = ap length taken.0.ranks ∙ before.ranks;
      kept = λ x n e. kept x n (before.kept x n e);
      settled = λ i is. settled_on rules old.ranks.items new.ranks.items old.waiting.items new.waiting.items i kept (λ x v has. subst (λ l. Contains l v) (sym (lists x)) has) (before.settled i is);
      still = λ x known none. lists x ∙ before.still x known none;
    }

-- each rule has a head with a rank, where no rule waits for a number with a rank
pub complete_from : (rules : List Rule) (p : Progress) → IsSoundAt rules p → ((i : ℕ) → i < length rules → IsSettled rules p.ranks.items p.waiting.items i)
    → ((n x : ℕ) → n < length p.order.items → slice_get p.order.items n ≡ Some x → waiting_at p.waiting.items x ≡ []) → IsComplete rules p.ranks.items
complete_from rules p h all none i r at ranked = by_cases (all i (slice_get_within rules i r at) r at)
  where
    by_cases : HasRank p.ranks.items r.head ⊎ ((x : ℕ) × (w : Waiting) × Contains (waiting_at p.waiting.items x) w × (w.rule ≡ i)) → HasRank p.ranks.items r.head
    by_cases (inl known) = known
    by_cases (inr waits) =
        let x = waits.0 in
        let needs = h.waits x waits.1 waits.2 in
        let alike = same_at rules waits.1.rule i needs.0 r waits.3 needs.1 at in
        let need : slice_get r.needs.items waits.1.place ≡ Some x = ap (λ r. slice_get r.needs.items waits.1.place) (sym alike) ∙ needs.2 in
        let known = ranked waits.1.place x (slice_get_within r.needs.items waits.1.place x need) need in
        let got = h.ranked known.0 x known.1 in
        let empty = none known.0 x (slice_get_within p.order.items known.0 x got) got in
        absurd (omega (arith, waits.2.1, ap length empty))

-- ranks are places of the order, which has no more places than numbers
pub ranks_below : (rules : List Rule) (p : Progress) → IsSoundAt rules p → HasRanksBelow (length p.ranks.items) p.ranks.items
ranks_below rules p h x n e = let low = slice_get_within p.order.items n x (h.ranked n x e) in omega (arith, low, h.room)

-- the first n numbers of the order are released
pub record FollowsTo (rules : List Rule) (bound n : ℕ) (p : Progress) : Type 0 where
  pub sound : IsSoundAt rules p
  pub ranks : length p.ranks.items ≡ bound
  pub all : (i : ℕ) → i < length rules → IsSettled rules p.ranks.items p.waiting.items i
  pub none : (k x : ℕ) → k < n → slice_get p.order.items k ≡ Some x → waiting_at p.waiting.items x ≡ []
  pub within : n ≤ length p.order.items

pub follows_first : (rules : List Rule) (bound : ℕ) (blank p : Progress) → length blank.ranks.items ≡ bound → SettlesTo rules (length rules) blank p → FollowsTo rules bound 0 p
follows_first rules bound blank p size h = record {
  sound = h.sound;
  ranks = h.ranks ∙ size;
  all = h.all;
  none = λ k x lt. absurd (omega (arith, lt));
  within = omega arith;
}

pub follows_more : (rules : List Rule) (bound n number : ℕ) (old new : Progress) → FollowsTo rules bound n old → slice_get old.order.items n ≡ Some number → Goes rules old new
    → waiting_at new.waiting.items number ≡ [] → FollowsTo rules bound (n + 1) new
follows_more rules bound n number old new before at goes empty =
    let early : (k x : ℕ) → slice_get old.order.items k ≡ Some x → slice_get new.order.items k ≡ Some x =
    λ k x got. goes.sound.ranked k x (goes.kept x k (before.sound.ordered k x got)) in
    let later : (k x : ℕ) → k < length old.order.items → slice_get new.order.items k ≡ Some x → slice_get old.order.items k ≡ Some x =
    λ k x lt got. let was = slice_get-get_or old.order.items k 0 lt in was ∙ sym (early k (get_or old.order.items k 0) was) ∙ got in
    let here : n < length old.order.items = slice_get_within old.order.items n number at in
    record {
      sound = goes.sound;
      ranks = goes.ranks ∙ before.ranks;
      all = λ i lt. goes.settled i (before.all i lt);
      none = λ k x lt got. elim (cases_lt k n) [
        | inl below ↦ (
            let was = later k x (omega (arith, below, here)) got in
            goes.still x (k, before.sound.ordered k x was) (before.none k x below was))
        | inr above ↦ (
            let last : k ≡ n = omega (arith, lt, above) in
            let was = later k x (omega (arith, last, here)) got in
            let same = same_at old.order.items k n x number last was at in
            ap (waiting_at new.waiting.items) same ∙ empty)
      ];
      within = (let got = slice_get_within new.order.items n number (early n number at) in omega (arith, got));
    }
