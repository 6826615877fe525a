-- Reading a list entry by entry.
use Rattle.std.proofs.Common.{◌≡◌, ℕ, zero, suc, ◌+◌, ◌-◌, ◌<◌, ◌≤◌, inl, inr, List, [], ◌∷◌, ◌++◌, map, take, length, get_or, Vec, refl, sym, ap, ◌∙◌, subst, arith}
use Rattle.std.specs.Prelude.{max, Err}
use Rattle.std.specs.declared.alloc.Global.{Global}
use Rattle.std.proofs.lemmas.List.{length-map}
use Rattle.sx_rules.specs.Rules.{Judgement, Rule, Hypotheses}
use Rattle.sx_rules.specs.Modes.{Modes, Goal}
use Rattle.sx_rules.specs.Orders.{Entry}
use Rattle.sx_rules.specs.EntryView.{entry, entries}
use Rattle.sx_rules.specs.declared.entry.Entry.{Entry as EntryOf}
use Rattle.sx_arena.specs.declared.fact.Fact.{Fact}
use Rattle.sx_arena.specs.declared.pairs.Pair.{Pair}
use Rattle.sx_arena.specs.Arena.{tree_at, AreBelow}
use Rattle.sx_arena.specs.Facts.{AreFacts}
use Rattle.sx_arena.specs.Pairs.{ArePairs, pairs_of}
use Rattle.sx_replay.specs.declared.noted.Noted.{Noted}
use Rattle.sx_replay.specs.declared.reader.Reader.{Reader}
use Rattle.sx_replay.specs.declared.step.Step.{Step}
use Rattle.sx_replay.specs.declared.step.Step.TheVariants.{Clash, Done, Asks}
use Rattle.sx_replay.specs.declared.replay_error.ReplayError.{ReplayError}
use Rattle.sx_replay.specs.declared.replay_error.ReplayError.TheVariants.{Memory, WrongAt}
use Rattle.sx_replay.specs.declared.replay_error.ReplayError.TheVariants.{EndsEarly, LongList}
use Rattle.sx_replay.specs.declared.replay_error.ReplayError.TheVariants.{TooDeep, TooBig, DeepList}
use Rattle.sx_replay.specs.Limits.{nothing_noted}
use Rattle.sx_replay.specs.Machine.{ReplayFrame, Move, clash, ends, asks, entry_move, open_at, ended}
use Rattle.sx_replay.specs.Machine.{read}
use Rattle.sx_replay.specs.Reader.{reader_trees, reader_envs, base_trees, stack_on, stack}
use Rattle.sx_replay.specs.Reader.{IsReplayReader, ReplayGoesOn, replay_hypotheses, replay_goal, IsReplayStep}
use Rattle.sx_replay.specs.Following.{IsEntryChecked, reading, StandsOpen, StandsWhole, StandsAt}
use Rattle.sx_replay.specs.Following.{StandsBefore, IsRefused}
use Rattle.sx_replay.proofs.Readers.{stack_length, goes_same, goes_then, pairs_same, base_facts}

pub get_any : (xs : List EntryOf) (i : ℕ) (d x : EntryOf) → i < length xs → get_or xs i d ≡ get_or xs i x
get_any [] i d x l = absurd (omega arith)
get_any (y ∷ xs) zero d x l = refl
get_any (y ∷ xs) (suc i) d x l = get_any xs i d x (omega arith)

-- the entries with one more
pub take_more : (xs : List EntryOf) (i : ℕ) (x : EntryOf) → i < length xs → x ≡ get_or xs i x → take (i + 1) (entries xs) ≡ take i (entries xs) ++ entry x ∷ []
take_more [] i x l e = absurd (omega arith)
take_more (y ∷ xs) zero x l e = ap (λ (z : EntryOf). entry z ∷ []) (sym e)
take_more (y ∷ xs) (suc i) x l e =
    let q : suc i + 1 ≡ suc (i + 1) = omega arith in
    ap (λ (k : ℕ). take k (entries (y ∷ xs))) q ∙ ap (λ (zs : List Entry). entry y ∷ zs) (take_more xs i x (omega arith) e)

pub take_all : (xs : List EntryOf) (i : ℕ) → length xs ≤ i → take i (entries xs) ≡ entries xs
take_all [] zero l = refl
take_all [] (suc i) l = refl
take_all (y ∷ xs) zero l = absurd (omega arith)
take_all (y ∷ xs) (suc i) l = ap (λ (zs : List Entry). entry y ∷ zs) (take_all xs i (omega arith))

-- reading one entry more
pub read_more : (modes : Modes) (rules : List Rule) (hyps : Hypotheses) (xs : List Entry) (e : Entry) (d : ℕ) (m : Move) (g : Goal) (fs : List ReplayFrame) (n : Noted) (k : ℕ) → read modes rules hyps xs d m ≡ open_at g fs n k →
    read modes rules hyps (xs ++ e ∷ []) d m ≡ read modes rules hyps [] (max k (length fs + 1)) (entry_move modes hyps rules e g fs n)
read_more modes rules hyps [] e d clash g fs n k h = cc
read_more modes rules hyps [] e d (ends outs m) g fs n k h = cc
read_more modes rules hyps [] e d (asks goal frames m) g fs n k h =
    let eg : goal ≡ g = cc in
    let ef : frames ≡ fs = cc in
    let en : m ≡ n = cc in
    let ed : d ≡ k = cc in
    λ i. read modes rules hyps [] (max (ed i) (length (ef i) + 1)) (entry_move modes hyps rules e (eg i) (ef i) (en i))
read_more modes rules hyps (x ∷ xs) e d clash g fs n k h = cc
read_more modes rules hyps (x ∷ xs) e d (ends outs m) g fs n k h = cc
read_more modes rules hyps (x ∷ xs) e d (asks goal frames m) g fs n k h = read_more modes rules hyps xs e (max d (length frames + 1)) (entry_move modes hyps rules x goal frames m) g fs n k h

-- the step of an entry at a goal
abbrev pub IsStepped : Modes → List Rule → List Pair → Reader → Reader → ℕ → List ℕ → List Judgement → Step → Entry → Type 0
IsStepped modes rules pairs now new here inputs js step e =
    ReplayGoesOn rules now new × IsReplayStep modes rules [] new ends step (entry_move modes (replay_hypotheses pairs now js) rules e (replay_goal now here inputs) (stack modes rules now) now.noted)

module _ (modes : Modes) (rules : List Rule) (facts : List Fact) (pairs : List Pair) (old : Reader) (form : ℕ) (terms : List ℕ) (list : List EntryOf) where
  -- the first entries are read, and the reader stands at the goal
  pub record Following (now : Reader) (i : ℕ) (here : ℕ) (inputs : List ℕ) : Type 0 where
    pub grows : ReplayGoesOn rules old now
    pub below : AreBelow (length (reader_trees now)) inputs
    pub noted : now.noted ≡ nothing_noted
    pub reads : (js : List Judgement) → AreFacts modes (base_trees old) js facts →
        (d : ℕ) × (reading modes rules (replay_hypotheses pairs old js) (replay_goal old form terms) (take i (entries list)) ≡ open_at (replay_goal now here inputs) (stack modes rules now) nothing_noted d) × (d ≤ 3000)

  pub following_first : IsReplayReader rules old → AreBelow (length (reader_trees old)) terms → old.noted ≡ nothing_noted → old.waiting.items ≡ [] → Following old 0 form terms
  following_first h b n w = record {
    grows = goes_same rules old h;
    below = b;
    noted = n;
    reads = λ js a. (0, ap (λ (fs : List ReplayFrame). open_at (replay_goal old form terms) fs nothing_noted 0) (sym (ap (stack_on modes rules (reader_envs old) []) w)), omega arith);
  }

  pub followed_end : (now : Reader) (i here : ℕ) (inputs : List ℕ) → Following now i here inputs → length list ≤ i → (js : List Judgement) → AreFacts modes (base_trees old) js facts →
      StandsOpen modes rules (replay_hypotheses pairs old js) (replay_goal old form terms) (entries list)
  followed_end now i here inputs f l js a =
      let r = f.reads js a in
      (replay_goal now here inputs, stack modes rules now, r.0, ap (reading modes rules (replay_hypotheses pairs old js) (replay_goal old form terms)) (sym (take_all list i l)) ∙ r.1, r.2)

  module _ (now new : Reader) (i here level : ℕ) (inputs : List ℕ) (x : EntryOf) (step : Step) (hp : ArePairs (length (base_trees old)) pairs) (f : Following now i here inputs) (l : i < length list) (e : x ≡ get_or list i x) (lv : level ≡ length now.waiting.items)
      (h : (js : List Judgement) → AreFacts modes (base_trees now) js facts → ReplayGoesOn rules now new × IsReplayStep modes rules [] new ends step (entry_move modes (replay_hypotheses pairs now js) rules (entry x) (replay_goal now here inputs) (stack modes rules now) now.noted)) where
    -- the move of the entry, and where reading stands after it
    pub record Entered (js : List Judgement) : Type 0 where
      pub grows : ReplayGoesOn rules now new
      pub move : Move
      pub is : IsReplayStep modes rules [] new ends step move
      pub depth : ℕ
      pub before : reading modes rules (replay_hypotheses pairs old js) (replay_goal old form terms) (take i (entries list)) ≡ open_at (replay_goal now here inputs) (stack modes rules now) nothing_noted depth
      pub within : depth ≤ 3000
      pub after : reading modes rules (replay_hypotheses pairs old js) (replay_goal old form terms) (take (i + 1) (entries list)) ≡ read modes rules (replay_hypotheses pairs old js) [] (max depth (level + 1)) move

    pub entered : (js : List Judgement) → AreFacts modes (base_trees old) js facts → Entered js
    entered js a =
        let r = f.reads js a in
        let s = h js (base_facts modes rules old now f.grows js facts a) in
        let q : pairs_of (reader_trees now) pairs ≡ pairs_of (reader_trees old) pairs = pairs_same rules old now f.grows pairs hp in
        let n : length (stack modes rules now) ≡ level = (let z = stack_length modes rules (reader_envs now) [] now.waiting.items in omega arith) in
        let hyps = replay_hypotheses pairs old js in
        let mv = entry_move modes (replay_hypotheses pairs now js) rules (entry x) (replay_goal now here inputs) (stack modes rules now) now.noted in
        let m : entry_move modes hyps rules (entry x) (replay_goal now here inputs) (stack modes rules now) nothing_noted ≡ mv =
        λ k. entry_move modes (record { judgements = js; pairs = sym q k }) rules (entry x) (replay_goal now here inputs) (stack modes rules now) (sym f.noted k) in
        record {
          grows = s.0;
          move = mv;
          is = s.1;
          depth = r.0;
          before = r.1;
          within = r.2;
          after = ap (reading modes rules hyps (replay_goal old form terms)) (take_more list i x l e)
              ∙ read_more modes rules hyps (take i (entries list)) (entry x) 0 (asks (replay_goal old form terms) [] nothing_noted) (replay_goal now here inputs) (stack modes rules now) nothing_noted r.0 r.1
              ∙ (λ k. read modes rules hyps [] (max r.0 (n k + 1)) (m k));
        }

    stands_before : (js : List Judgement) → Entered js → StandsBefore modes rules (replay_hypotheses pairs old js) (replay_goal old form terms) (entries list) (i + 1)
    stands_before js t =
        let c : i + 1 - 1 ≡ i = omega arith in
        let n = length-map list entry in (
          (omega arith),
          (omega arith),
          (
            replay_goal now here inputs,
            stack modes rules now,
            t.depth,
            ap (λ (k : ℕ). reading modes rules (replay_hypotheses pairs old js) (replay_goal old form terms) (take k (entries list))) c ∙ t.before,
            t.within,
          ),
        )

    pub wrong_entry : step ≡ Clash → (number : ℕ) → number ≡ i + 1 → (js : List Judgement) → AreFacts modes (base_trees old) js facts → IsRefused modes rules (replay_hypotheses pairs old js) (replay_goal old form terms) (entries list) (WrongAt number)
    wrong_entry s number en js a =
        let t = entered js a in
        let c : t.move ≡ clash = subst (λ (y : Step). IsReplayStep modes rules [] new ends y t.move) s t.is in
        subst (λ (k : ℕ). IsRefused modes rules (replay_hypotheses pairs old js) (replay_goal old form terms) (entries list) (WrongAt k)) (sym en)
        (stands_before js t, t.after ∙ ap (read modes rules (replay_hypotheses pairs old js) [] (max t.depth (level + 1))) c)

    -- where reading stands with outputs or with a goal
    stands_done : (outs : Vec ℕ Global) → step ≡ Done outs → (js : List Judgement) (t : Entered js) →
        reading modes rules (replay_hypotheses pairs old js) (replay_goal old form terms) (take (i + 1) (entries list)) ≡ ended (map (tree_at (reader_trees new)) outs.items) new.noted (max t.depth (level + 1)) []
    stands_done outs s js t =
        let c = subst (λ (y : Step). IsReplayStep modes rules [] new ends y t.move) s t.is in
        t.after ∙ ap (read modes rules (replay_hypotheses pairs old js) [] (max t.depth (level + 1))) c.2

    stands_asks : (there : ℕ) (made : Vec ℕ Global) → step ≡ Asks there made → (js : List Judgement) (t : Entered js) →
        reading modes rules (replay_hypotheses pairs old js) (replay_goal old form terms) (take (i + 1) (entries list)) ≡ open_at (replay_goal new there made.items) (stack modes rules new) new.noted (max t.depth (level + 1))
    stands_asks there made s js t =
        let c = subst (λ (y : Step). IsReplayStep modes rules [] new ends y t.move) s t.is in
        t.after ∙ ap (read modes rules (replay_hypotheses pairs old js) [] (max t.depth (level + 1))) c.1

    refused_at : (number : ℕ) → number ≡ i + 1 → (err : ReplayError) → IsEntryChecked level new.noted number (Err err) → (js : List Judgement) (t : Entered js) →
        StandsAt modes rules (replay_hypotheses pairs old js) (replay_goal old form terms) (take (i + 1) (entries list)) new.noted (max t.depth (level + 1)) →
        IsRefused modes rules (replay_hypotheses pairs old js) (replay_goal old form terms) (entries list) err
    refused_at number en Memory c js t st = absurd c
    refused_at number en (WrongAt k) c js t st = absurd c
    refused_at number en EndsEarly c js t st = absurd c
    refused_at number en (LongList k) c js t st = absurd c
    refused_at number en (DeepList k) c js t st =
        let ck = c.0 in
        let w = t.within in
        subst (λ (j : ℕ). IsRefused modes rules (replay_hypotheses pairs old js) (replay_goal old form terms) (entries list) (DeepList j)) (sym (c.1 ∙ en))
        (new.noted, max t.depth (level + 1), stands_before js t, st, (omega arith))
    refused_at number en (TooDeep m) c js t st =
        let ck = c.0 in
        let w = t.within in
        (i + 1, new.noted, max t.depth (level + 1), stands_before js t, st, (omega arith), c.1)
    refused_at number en (TooBig m) c js t st =
        let ck = c.0 in
        let w = t.within in
        (i + 1, new.noted, max t.depth (level + 1), stands_before js t, st, (omega arith), c.1, c.2)

    pub done_refused : (outs : Vec ℕ Global) → step ≡ Done outs → (number : ℕ) → number ≡ i + 1 → (err : ReplayError) → IsEntryChecked level new.noted number (Err err) → (js : List Judgement) → AreFacts modes (base_trees old) js facts →
        IsRefused modes rules (replay_hypotheses pairs old js) (replay_goal old form terms) (entries list) err
    done_refused outs s number en err c js a =
        let t = entered js a in
        refused_at number en err c js t (inr (map (tree_at (reader_trees new)) outs.items, stands_done outs s js t))

    pub asks_refused : (there : ℕ) (made : Vec ℕ Global) → step ≡ Asks there made → (number : ℕ) → number ≡ i + 1 → (err : ReplayError) → IsEntryChecked level new.noted number (Err err) → (js : List Judgement) → AreFacts modes (base_trees old) js facts →
        IsRefused modes rules (replay_hypotheses pairs old js) (replay_goal old form terms) (entries list) err
    asks_refused there made s number en err c js a =
        let t = entered js a in
        refused_at number en err c js t (inl (replay_goal new there made.items, stack modes rules new, stands_asks there made s js t))

    pub long_list : (outs : Vec ℕ Global) → step ≡ Done outs → level < 3000 → new.noted ≡ nothing_noted → (number : ℕ) → number ≡ i + 2 → i + 1 < length list → (js : List Judgement) → AreFacts modes (base_trees old) js facts →
        IsRefused modes rules (replay_hypotheses pairs old js) (replay_goal old form terms) (entries list) (LongList number)
    long_list outs s lt nn number en more js a =
        let t = entered js a in
        let w = t.within in
        let c : i + 2 - 1 ≡ i + 1 = omega arith in
        let n = length-map list entry in
        subst (λ (j : ℕ). IsRefused modes rules (replay_hypotheses pairs old js) (replay_goal old form terms) (entries list) (LongList j)) (sym en) (
          (omega arith),
          (omega arith),
          (
            map (tree_at (reader_trees new)) outs.items,
            (
              max t.depth (level + 1),
              ap (λ (k : ℕ). reading modes rules (replay_hypotheses pairs old js) (replay_goal old form terms) (take k (entries list))) c ∙ stands_done outs s js t
                  ∙ ap (λ (y : Noted). ended (map (tree_at (reader_trees new)) outs.items) y (max t.depth (level + 1)) []) nn,
              (omega arith),
            ),
          ),
        )

    pub whole_list : (outs : Vec ℕ Global) → step ≡ Done outs → level < 3000 → new.noted ≡ nothing_noted → length list ≤ i + 1 → (js : List Judgement) → AreFacts modes (base_trees old) js facts →
        StandsWhole modes rules (replay_hypotheses pairs old js) (replay_goal old form terms) (entries list) (map (tree_at (reader_trees new)) outs.items)
    whole_list outs s lt nn le js a =
        let t = entered js a in
        let w = t.within in (
          max t.depth (level + 1),
          ap (reading modes rules (replay_hypotheses pairs old js) (replay_goal old form terms)) (sym (take_all list (i + 1) le)) ∙ stands_done outs s js t
              ∙ ap (λ (y : Noted). ended (map (tree_at (reader_trees new)) outs.items) y (max t.depth (level + 1)) []) nn,
          (omega arith),
        )

    pub following_more : (there : ℕ) (made : Vec ℕ Global) → step ≡ Asks there made → level < 3000 → new.noted ≡ nothing_noted → (js : List Judgement) → AreFacts modes (base_trees old) js facts → Following new (i + 1) there made.items
    following_more there made s lt nn js0 a0 =
        let t0 = entered js0 a0 in
        let c = subst (λ (y : Step). IsReplayStep modes rules [] new ends y t0.move) s t0.is in
        record {
          grows = goes_then rules old now new f.grows t0.grows;
          below = c.0;
          noted = nn;
          reads = λ js a.
              let t = entered js a in
              let w = t.within in
              (max t.depth (level + 1), stands_asks there made s js t ∙ ap (λ (y : Noted). open_at (replay_goal new there made.items) (stack modes rules new) y (max t.depth (level + 1))) nn, (omega arith));
        }

    pub done_below : (outs : Vec ℕ Global) → step ≡ Done outs → (js : List Judgement) → AreFacts modes (base_trees old) js facts → AreBelow (length (reader_trees new)) outs.items
    done_below outs s js a =
        let t = entered js a in
        let c = subst (λ (y : Step). IsReplayStep modes rules [] new ends y t.move) s t.is in
        c.0
