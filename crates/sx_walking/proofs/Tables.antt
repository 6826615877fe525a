-- Tables of files.
use Rattle.std.proofs.Common.{◌≡◌, ◌⊎◌, inl, inr, refl, ap, sym, ◌∙◌, subst, Bool, true, false}
use Rattle.std.proofs.Common.{cond}
use Rattle.std.specs.Prelude.{Option, Some, None, string_bytes, option_map, is_some, IsSome}
use Rattle.std.specs.Prelude.{if◌then◌else◌}
use Rattle.std.specs.Str.{bytes_eq}
use Rattle.std.specs.String.{string_eq}
use Rattle.std.specs.HashMap as hash
use Rattle.std.specs.HashMap.{get_by_text}
use Rattle.std.proofs.lemmas.Bool.{false_from_ne_true, true≢false}
use Rattle.std.proofs.lemmas.Map.Text.{hash_map_updates_text}
use Rattle.std.proofs.lemmas.Slice.Eq.{bytes_eq-Decides}
use Rattle.sx_imports.specs.Walk.{Name}
use Rattle.sx_steps.proofs.Ones.{some_same, none_some}
use Rattle.sx_walking.specs.Reached.{Found}
use Rattle.sx_walking.specs.FileTable.{FileMap, files_by, seen_as, IsFilePut, IsFileTaken}

-- ---- what a table holds

module _ {F : Type 0} where
  pub is_held : (t : FileMap F) (key name : Name) (b : Bool) → key ≡ name →
      b ≡ is_some (get_by_text t key) → b ≡ is_some (files_by t name)
  is_held t key name b e h = subst (λ (n : Name). b ≡ is_some (files_by t n)) e h

  chosen : (b : Bool) (v : F) (o : Option F) → cond b (Some v) o ≡ (if b then Some v else o)
  chosen true v o = refl
  chosen false v o = refl

  pub put_held : (old new : FileMap F) (key name : Name) (v : F) → key ≡ name →
      hash.UpdatesBy string_eq (λ k. bytes_eq key (string_bytes k)) old new (Some v) →
      IsFilePut name v (files_by old) (files_by new)
  put_held old new key name v e u =
      subst (λ (n : Name). IsFilePut n v (files_by old) (files_by new)) e
      (λ other. hash_map_updates_text key old new (Some v) u other
      ∙ chosen (bytes_eq key other) v (get_by_text old other))

  pub got_held : (t : FileMap F) (key name : Name) (r : Option F) → key ≡ name →
      r ≡ get_by_text t key → r ≡ files_by t name
  got_held t key name r e h = subst (λ (n : Name). r ≡ files_by t n) e h

  skipped : (b : Bool) (o : Option F) → b ≡ false → cond b None o ≡ o
  skipped true o e = cc
  skipped false o e = refl

pub differ : (name other : Name) → (name ≡ other → ⊥) → bytes_eq name other ≡ false
differ name other apart =
    false_from_ne_true (bytes_eq name other) (λ t. apart ((bytes_eq-Decides name other).0 t))

pub unlike : (name other : Name) → bytes_eq name other ≡ false → name ≡ other → ⊥
unlike name other h e = true≢false (sym ((bytes_eq-Decides name other).1 e) ∙ h)

pub taken_others : {F : Type 0} (old new : FileMap F) (key name : Name) → key ≡ name →
    hash.UpdatesBy string_eq (λ k. bytes_eq key (string_bytes k)) old new None →
    IsFileTaken name (files_by old) (files_by new)
taken_others old new key name e u = subst (λ (n : Name). IsFileTaken n (files_by old) (files_by new)) e
    (λ other apart. hash_map_updates_text key old new None u other
    ∙ skipped (bytes_eq key other) (get_by_text old other) (differ key other apart))

-- ---- so as plain data

module _ {F A : Type 0} (says : F → A) where
  seen_put : (b : Bool) (v : F) (o : Option F) → option_map says (if b then Some v else o)
      ≡ (if b then Some (says v) else option_map says o)
  seen_put true v o = refl
  seen_put false v o = refl

  pub put_seen : (name : Name) (v : F) (old new : Found F) → IsFilePut name v old new →
      IsFilePut name (says v) (seen_as says old) (seen_as says new)
  put_seen name v old new put other =
      ap (λ (o : Option F). option_map says o) (put other)
      ∙ seen_put (bytes_eq name other) v (old other)

  pub there_seen : (held : Found F) (name : Name) (x : F) → Some x ≡ held name →
      Some (says x) ≡ seen_as says held name
  there_seen held name x e = ap (λ (o : Option F). option_map says o) e

  pub some_seen : (o : Option F) → is_some o ≡ is_some (option_map says o)
  some_seen None = refl
  some_seen (Some x) = refl

-- ---- what a table holds after a put

module _ {A : Type 0} (name : Name) (x : A) (old new : Found A) (put : IsFilePut name x old new) where
  put_so : (other : Name) (y : A) (b : Bool) → bytes_eq name other ≡ b →
      (if b then Some x else old other) ≡ Some y →
      ((name ≡ other) × (x ≡ y)) ⊎ (old other ≡ Some y)
  put_so other y true e h = inl ((bytes_eq-Decides name other).0 e, some_same x y h)
  put_so other y false e h = inr h

  pub put_cases : (other : Name) (y : A) → new other ≡ Some y →
      ((name ≡ other) × (x ≡ y)) ⊎ (old other ≡ Some y)
  put_cases other y h = put_so other y (bytes_eq name other) refl (sym (put other) ∙ h)

  pub put_same : new name ≡ Some x
  put_same =
      put name
      ∙ ap (λ (b : Bool). if b then Some x else old name) ((bytes_eq-Decides name name).1 refl)

  kept_so : (other : Name) (y : A) (b : Bool) → bytes_eq name other ≡ b → old name ≡ None →
      old other ≡ Some y → (if b then Some x else old other) ≡ Some y
  kept_so other y true e none h = absurd (none_some y
      (sym none ∙ ap (λ (n : Name). old n) ((bytes_eq-Decides name other).0 e) ∙ h))
  kept_so other y false e none h = h

  pub put_keeps : old name ≡ None → (other : Name) (y : A) → old other ≡ Some y →
      new other ≡ Some y
  put_keeps none other y h = put other ∙ kept_so other y (bytes_eq name other) refl none h

module _ {A : Type 0} where
  pub is_none : (o : Option A) → is_some o ≡ false → o ≡ None
  is_none None e = refl
  is_none (Some x) e = cc

  pub is_there : (o : Option A) (x : A) → o ≡ Some x → IsSome o
  is_there o x e = subst (λ (p : Option A). IsSome p) (sym e) refl

  pub there : (o : Option A) → is_some o ≡ true → (x : A) × (o ≡ Some x)
  there None e = cc
  there (Some x) e = (x, refl)
