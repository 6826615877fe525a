use Rattle.std.proofs.Common.{◌≡◌, false, map, drop}
use Rattle.sx_term.specs.Term.{tree}
use Rattle.sx_rules.specs.SubjectTerms.{output_mask}
use Rattle.sx_arena.specs.Binds.{env_at}
use Rattle.sx_arena.specs.Places.{selected}
use Rattle.sx_derive.specs.Binding.{binds_terms}
use Rattle.sx_derive.specs.Store.{store_envs}
use Rattle.sx_derive.proofs.bound_inputs.has_bound_inputs.Given as goal

abbrev pub invariant-loop-i : goal.invariant-loop-i
invariant-loop-i l = binds_terms (env_at (store_envs l.store) l.env) (selected false (drop l.i (output_mask l.places)) (drop l.i (map tree l.terms.items))) ≡ binds_terms (env_at (store_envs l.store) l.env) (selected false (output_mask l.places) (map tree l.terms.items))
