use Rattle.std.proofs.Common.{◌∙◌, refl, sym, ap, arith, Bool, List, map, false}
use Rattle.sx_term.specs.Term.{tree}
use Rattle.sx_rules.specs.SubjectTerms.{output_mask}
use Rattle.sx_arena.specs.Binds.{env_at}
use Rattle.sx_arena.specs.Places.{selected}
use Rattle.sx_arena.proofs.Placed.{shallow_at}
use Rattle.sx_derive.specs.Binding.{binds_terms}
use Rattle.sx_derive.specs.Store.{store_trees, store_envs}
use Rattle.sx_derive.proofs.Bound.{places_skip, places_more, places_end, and_true, and_false}
use Rattle.sx_derive.proofs.bound_inputs.has_bound_inputs.Goals as goal

pub loop-i-init : goal.loop-i-init
loop-i-init c = refl

pub is_bound-requires-clause-depth : goal.is_bound-requires-clause-depth
is_bound-requires-clause-depth c = shallow_at _ c.requires.shallow c.loop-i.i _ (let a = c.loop-i-test.true in let b = c.len-i-end.ensures in let e = c.args.judgement.now.places.ok in omega arith) c.index.ensures

pub loop-i-preserved-then-is_output : goal.loop-i-preserved-then-is_output
loop-i-preserved-then-is_output c =
    sym (places_skip (env_at (store_envs c.args.store.now) c.args.env) (output_mask c.roles-places.result.now) c.args.judgement.now.places.items c.loop-i.i (let a = c.loop-i-test.true in let b = c.len-i-end.ensures in let e = c.args.judgement.now.places.ok in omega arith) (sym c.is_output.ensures ∙ c.if-is_output.true))
    ∙ c.loop-i.invariant

pub loop-i-preserved : goal.loop-i-preserved
loop-i-preserved c =
    sym (and_true _ _ (sym (c.is_bound.ensures (store_trees c.args.store.now) c.requires.store.binds) ∙ c.if-not-is_bound.false))
    ∙ sym (places_more (env_at (store_envs c.args.store.now) c.args.env) (output_mask c.roles-places.result.now) c.args.judgement.now.places.items c.loop-i.i _ (let a = c.loop-i-test.true in let b = c.len-i-end.ensures in let e = c.args.judgement.now.places.ok in omega arith) c.index.ensures (sym c.is_output.ensures ∙ c.if-is_output.false))
    ∙ c.loop-i.invariant

pub returns-then-not-is_bound : goal.returns-then-not-is_bound
returns-then-not-is_bound c =
    sym (and_false _ _ (sym (c.is_bound.ensures (store_trees c.args.store.now) c.requires.store.binds) ∙ c.if-not-is_bound.true))
    ∙ sym (places_more (env_at (store_envs c.args.store.now) c.args.env) (output_mask c.roles-places.result.now) c.args.judgement.now.places.items c.loop-i.i _ (let a = c.loop-i-test.true in let b = c.len-i-end.ensures in let e = c.args.judgement.now.places.ok in omega arith) c.index.ensures (sym c.is_output.ensures ∙ c.if-is_output.false))
    ∙ c.loop-i.invariant
    ∙ ap (λ (mask : List Bool). binds_terms (env_at (store_envs c.args.store.now) c.args.env) (selected false mask (map tree c.args.judgement.now.places.items))) c.roles-places.ensures

pub returns : goal.returns
returns c =
    sym (places_end (env_at (store_envs c.args.store.now) c.args.env) (output_mask c.roles-places.result.now) c.args.judgement.now.places.items c.loop-i.i (let a = c.loop-i-test.false in let b = c.len-i-end.ensures in let e = c.args.judgement.now.places.ok in omega arith))
    ∙ c.loop-i.invariant
    ∙ ap (λ (mask : List Bool). binds_terms (env_at (store_envs c.args.store.now) c.args.env) (selected false mask (map tree c.args.judgement.now.places.items))) c.roles-places.ensures
