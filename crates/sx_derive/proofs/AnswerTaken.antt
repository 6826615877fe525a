-- An answer that is taken as one kid more.
use Rattle.std.proofs.Common.{◌≡◌, ℕ, ◌+◌, ◌≤◌, List, [], ◌∷◌, ◌++◌, map, length, Some, Vec, refl, sym, ap, ◌∙◌, arith}
use Rattle.std.specs.Prelude.{Result, Ok, Err, IfOk}
use Rattle.std.specs.declared.alloc.Global.{Global}
use Rattle.std.proofs.lemmas.List.{length_push}
use Rattle.sx_rules.specs.Derivations.{no_more, ◌⊳◌}
use Rattle.sx_rules.specs.Modes.{Modes, outputs_of}
use Rattle.sx_rules.specs.Rules.{Judgement, Rule}
use Rattle.sx_arena.specs.Arena.{trees, tree_at}
use Rattle.sx_arena.specs.Binds.{env_at, BindsGrow}
use Rattle.sx_arena.specs.Matching.{match_all}
use Rattle.sx_arena.specs.declared.binds.Binds.{Binds}
use Rattle.sx_arena.proofs.BindChains.{env_stays}
use Rattle.sx_arena.proofs.Growing.{extends-length}
use Rattle.sx_derive.specs.Chains.{HeadFits, kids_at, head_proof}
use Rattle.sx_derive.specs.Handing.{answer_in}
use Rattle.sx_derive.specs.Machine.{joined_proofs}
use Rattle.sx_derive.specs.Store.{IsStore, StoreGrows, store_trees, store_envs, store_kids}
use Rattle.sx_derive.specs.Traced.{IsAnswerTaken}
use Rattle.sx_derive.specs.declared.chains.Head.{Head}
use Rattle.sx_derive.specs.declared.chains.Kid.{Kid}
use Rattle.sx_derive.specs.declared.chains.Waiting.{Waiting}
use Rattle.sx_derive.specs.declared.store.Store.{Store}
use Rattle.sx_derive.specs.declared.trace.Premised.TheVariants.{Holds}
use Rattle.sx_derive.proofs.Chained.{head_stays, head_fits_more, kids_stay_at}
use Rattle.sx_derive.proofs.Resumed.{sizes}
use Rattle.sx_derive.proofs.Stored.{grows_then, grows_binds, grows_kid}

module _ (modes : Modes) (rules : List Rule) (s : Store) (c : Waiting) (j : Judgement) (head : Head) (outs : List ℕ) (h : IsStore modes rules s) (lk : c.kids ≤ length s.kids.items)
    (hf : HeadFits (length (store_envs s)) (length (store_kids s)) head) (binds : Binds) (g : BindsGrow (trees s.arena) s.binds binds) where
  -- the store with the bindings of the match
  abbrev bound : Store
  bound = record { arena = s.arena; binds = binds; kids = s.kids; frames = s.frames; until = s.until }

  pub bound_grows : StoreGrows modes rules s bound
  bound_grows = grows_binds modes rules s bound h g refl refl refl refl

  module _ (kids : Vec Kid Global) (number : ℕ) (e : kids.items ≡ s.kids.items ++ record { before = c.kids; head = head } ∷ []) (f : number ≡ length s.kids.items + 1) where
    -- and with the proof behind the kids
    abbrev joined : Store
    joined = record { arena = s.arena; binds = binds; kids = kids; frames = s.frames; until = s.until }

    one_more : StoreGrows modes rules bound joined × (kids_at (store_kids joined) (length s.kids.items + 1) ≡ joined_proofs (kids_at (store_kids bound) c.kids) (head_proof (store_envs bound) (store_kids bound) head ⊳ no_more))
    one_more =
        let z = (sizes modes rules s).kids in
        let x = extends-length (store_envs s) (store_envs bound) bound_grows.envs in
        grows_kid modes rules bound joined (record { before = c.kids; head = head }) bound_grows.store
        (head_fits_more (length (store_envs s)) (length (store_envs bound)) (length (store_kids s)) (length s.kids.items) x (omega arith) head hf) lk refl refl e refl refl

    pub joined_grows : StoreGrows modes rules s joined
    joined_grows = grows_then modes rules s bound joined bound_grows one_more.0

    pub joined_taken : (env : ℕ) → env ≤ length binds.cells.items → match_all (outputs_of modes j) (map (tree_at (store_trees s)) outs) (env_at (store_envs s) c.env) ≡ Some (env_at (store_envs bound) env) →
        IsAnswerTaken modes s joined c j (answer_in s head outs) (Holds env number)
    joined_taken env l m =
        let z = sizes modes rules s in
        let zk = z.kids in
        let y = (sizes modes rules bound).envs in
        let a = ap length e ∙ length_push s.kids.items (record { before = c.kids; head = head }) in
        let stays_bound : env_at (store_envs joined) env ≡ env_at (store_envs bound) env = env_stays (store_envs bound) (store_envs joined) one_more.0.envs env (omega arith) in (
          l,
          (omega arith),
          m ∙ ap Some (sym stays_bound),
          ap (kids_at (store_kids joined)) f
              ∙ one_more.1
              ∙ (λ i. joined_proofs (kids_stay_at (store_kids s) (store_kids bound) bound_grows.kids c.kids (omega arith) i) (head_stays (store_envs s) (store_envs bound) (store_kids s) (store_kids bound) bound_grows.envs bound_grows.kids head hf i ⊳ no_more)),
        )

-- what is known of the store and of the answer is known together
pub ok_with : {A E : Type 0} (G : Type 0) (P Q : A → Type 0) → ((x : A) → G → P x → Q x) → (r : Result A E) → IfOk r (λ x. G) → IfOk r P → IfOk r Q
ok_with G P Q f (Ok x) g p = f x g p
ok_with G P Q f (Err e) g p = tt
