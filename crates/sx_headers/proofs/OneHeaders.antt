-- The steps that read headers and interfaces have one result each, read faults aside.
use Rattle.std.proofs.Common.{◌≡◌, ℕ, suc, List, [], ◌∷◌, ◌++◌, length, refl, sym, ap, ◌∙◌, subst}
use Rattle.std.proofs.Common.{inl, inr}
use Rattle.std.specs.Prelude.{Ok, Err, Some, None, Contains}
use Rattle.sx_lines.specs.Lines.{Lines, lines_from, line_texts}
use Rattle.sx_lines.specs.Reading.{kept}
use Rattle.sx_interface.specs.Headers.{HeaderParts}
use Rattle.sx_interface.specs.Interfaces.{InterfaceParts, other_version}
use Rattle.sx_interface.specs.Stated.{StatesInterface}
use Rattle.sx_interface.specs.StatedHeader.{StatesHeader}
use Rattle.sx_interface.proofs.HeaderStated.{header_again}
use Rattle.sx_interface.proofs.InterfaceLaws.{interface_again}
use Rattle.sx_interface.proofs.VersionLaws.{version_known, one_form}
use Rattle.sx_interface.specs.FreeNames.{AreFree}
use Rattle.sx_interface.proofs.FreeNames.{first_none}
use Rattle.sx_outside.specs.Files.{Files}
use Rattle.sx_steps.specs.declared.stop.Stop.{Stop}
use Rattle.sx_steps.specs.Held.{Held}
use Rattle.sx_term.specs.Limits.{most_bytes}
use Rattle.sx_steps.proofs.Ones.{IsOne, then_one, held_one, ok_same}
use Rattle.sx_headers.specs.FreeImports.{IsTakenAt, HasFreeImports}
use Rattle.sx_headers.specs.HeaderRows.{header_row_line, import_row}
use Rattle.sx_headers.specs.HeaderStops.{bad_header, version_stop as is_other_version}
use Rattle.sx_headers.specs.ReadInterface.{HeldInterface, HasInterface, IsBadInterface, StatesParts}
use Rattle.sx_headers.specs.ReadInterface.{ReadsInterface}
use Rattle.sx_headers.specs.ReadModule.{Module, HasHeader, StatesModule, ReadsModule}
use Rattle.sx_headers.proofs.FirstLines.{bad_states_none, one_first_bad}

-- ---- headers

module _ (file name bytes : List ℕ) where
  one_header : (h k : HeaderParts) → StatesHeader name (kept (lines_from 1 bytes)) h →
      StatesHeader name (kept (lines_from 1 bytes)) k → h ≡ k
  one_header h k s t =
      ok_same h k (sym (header_again name (kept (lines_from 1 bytes)) h s)
      ∙ header_again name (kept (lines_from 1 bytes)) k t)

  one_module : (m n : Module) → HasHeader name bytes m → HasHeader name bytes n → m ≡ n
  one_module m n h k = λ i. record {
    bytes = (h.same ∙ sym k.same) i;
    header = one_header m.header n.header h.states k.states i;
  }

  no_module : (m : Module) (stop : Stop) → StatesModule file name bytes (Ok m) →
      StatesModule file name bytes (Err stop) → ⊥
  no_module m stop h (inl k) = k.0 h.utf8
  no_module m stop h (inr k) =
      let b = k.1 in
      bad_states_none (StatesHeader name) (kept (lines_from 1 bytes)) b.0 m.header b.1 h.states

  one_stop : (s t : Stop) → StatesModule file name bytes (Err s) →
      StatesModule file name bytes (Err t) → s ≡ t
  one_stop s t (inl h) (inl k) = h.1 ∙ sym k.1
  one_stop s t (inl h) (inr k) = absurd (h.0 k.0)
  one_stop s t (inr h) (inl k) = absurd (k.0 h.0)
  one_stop s t (inr h) (inr k) =
      let a = h.1 in
      let b = k.1 in
      a.2 ∙ ap (bad_header file) (one_first_bad (StatesHeader name) (kept (lines_from 1 bytes)) a.0
      b.0 a.1 b.1) ∙ sym b.2

  states_one : IsOne (StatesModule file name bytes)
  states_one (Ok m) (Ok n) h k f g = ap Ok (one_module m n h k)
  states_one (Ok m) (Err t) h k f g = absurd (no_module m t h k)
  states_one (Err s) (Ok n) h k f g = absurd (no_module n s k h)
  states_one (Err s) (Err t) h k f g = ap Err (one_stop s t h k)

pub reads_module_one : (file name : List ℕ) (files : Files) → IsOne (ReadsModule file name files)
reads_module_one file name files =
    then_one (Held most_bytes file files) (StatesModule file name) (held_one most_bytes file files)
    (λ bytes held. states_one file name bytes)

-- ---- interfaces

none_some : (n : ℕ) → None ≡ Some n → ⊥
none_some n e = cc

some_same : (m n : ℕ) → Some m ≡ Some n → m ≡ n
some_same m n e = cc

module _ (file name bytes : List ℕ) where
  abbrev lines : Lines
  lines = lines_from 1 bytes

  abbrev States : Lines → InterfaceParts → Type 0
  States l it = StatesInterface name (line_texts l) it

  pub one_interface : (i j : InterfaceParts) → States lines i → States lines j → i ≡ j
  one_interface i j s t =
      ok_same i j (sym (interface_again name lines i s) ∙ interface_again name lines j t)

  known : (it : InterfaceParts) → States lines it → other_version lines ≡ None
  known it s = version_known lines s.version _ (s.spelled ∙ one_form s.version it s.whole)

  one_held : (i j : HeldInterface) → HasInterface name bytes i → HasInterface name bytes j → i ≡ j
  one_held i j h k = λ l. record {
    bytes = (h.same ∙ sym k.same) l;
    parts = one_interface i.parts j.parts h.states k.states l;
  }

  no_interface : (i : HeldInterface) (stop : Stop) → StatesParts file name bytes (Ok i) →
      StatesParts file name bytes (Err stop) → ⊥
  no_interface i stop h (inl k) = k.0 h.utf8
  no_interface i stop h (inr (utf8, inl k)) =
      none_some k.0 (sym (known i.parts h.states) ∙ k.1)
  no_interface i stop h (inr (utf8, inr k)) =
      let b = k.1 in
      bad_states_none States lines b.0 i.parts b.1 h.states

  one_bad : (s t : Stop) → IsBadInterface file name lines s → IsBadInterface file name lines t →
      s ≡ t
  one_bad s t (inl h) (inl k) =
      h.2 ∙ ap (is_other_version file) (some_same h.0 k.0 (sym h.1 ∙ k.1)) ∙ sym k.2
  one_bad s t (inl h) (inr k) = absurd (none_some h.0 (sym k.0 ∙ h.1))
  one_bad s t (inr h) (inl k) = absurd (none_some k.0 (sym h.0 ∙ k.1))
  one_bad s t (inr h) (inr k) =
      let a = h.1 in
      let b = k.1 in
      a.2 ∙ ap (bad_header file) (one_first_bad States lines a.0 b.0 a.1 b.1) ∙ sym b.2

  one_refusal : (s t : Stop) → StatesParts file name bytes (Err s) →
      StatesParts file name bytes (Err t) → s ≡ t
  one_refusal s t (inl h) (inl k) = h.1 ∙ sym k.1
  one_refusal s t (inl h) (inr k) = absurd (h.0 k.0)
  one_refusal s t (inr h) (inl k) = absurd (k.0 h.0)
  one_refusal s t (inr h) (inr k) = one_bad s t h.1 k.1

  parts_one : IsOne (StatesParts file name bytes)
  parts_one (Ok i) (Ok j) h k f g = ap Ok (one_held i j h k)
  parts_one (Ok i) (Err t) h k f g = absurd (no_interface i t h k)
  parts_one (Err s) (Ok j) h k f g = absurd (no_interface j s k h)
  parts_one (Err s) (Err t) h k f g = ap Err (one_refusal s t h k)

pub reads_interface_one : (file name : List ℕ) (files : Files) →
    IsOne (ReadsInterface file name files)
reads_interface_one file name files =
    then_one (Held most_bytes file files) (StatesParts file name) (held_one most_bytes file files)
    (λ bytes held. parts_one file name bytes)

-- ---- names of imports

module _ (literals : List (List ℕ)) where
  same_head : (a b : List ℕ) (xs ys : List (List ℕ)) → a ∷ xs ≡ b ∷ ys → a ≡ b
  same_head a b xs ys e = cc

  same_tail : (a b : List ℕ) (xs ys : List (List ℕ)) → a ∷ xs ≡ b ∷ ys → xs ≡ ys
  same_tail a b xs ys e = cc

  one_place : (front others rest more : List (List ℕ)) (word other : List ℕ) →
      front ++ word ∷ rest ≡ others ++ other ∷ more → AreFree literals front →
      AreFree literals others → Contains literals word → Contains literals other →
      length front ≡ length others
  one_place [] [] rest more word other e f g h k = refl
  one_place [] (o ∷ others) rest more word other e f g h k =
      absurd (g.0 (subst (Contains literals) (same_head word o rest (others ++ other ∷ more) e) h))
  one_place (w ∷ front) [] rest more word other e f g h k =
      absurd (f.0 (subst (Contains literals) (sym (same_head w other (front ++ word ∷ rest) more e))
      k))
  one_place (w ∷ front) (o ∷ others) rest more word other e f g h k =
      ap suc (one_place front others rest more word other
      (same_tail w o (front ++ word ∷ rest) (others ++ other ∷ more) e) f.1 g.1 h k)

  taken_one : (names : List (List ℕ)) (m n : ℕ) → IsTakenAt literals names m →
      IsTakenAt literals names n → m ≡ n
  taken_one names m n (word, h, is) (other, k, at) =
      is ∙ one_place h.front k.front h.rest k.rest word other (sym h.is ∙ k.is) h.free k.free
      h.literal k.literal ∙ sym at

pub free_imports_one : (file : List ℕ) (literals : List (List ℕ)) (m : Module) →
    IsOne (HasFreeImports file literals m)
free_imports_one file literals m (Ok a) (Ok b) h k f g = refl
free_imports_one file literals m (Ok a) (Err t) h k f g =
    absurd (first_none literals m.header.imports k.1.0 k.1.1 h)
free_imports_one file literals m (Err s) (Ok b) h k f g =
    absurd (first_none literals m.header.imports h.1.0 h.1.1 k)
free_imports_one file literals m (Err s) (Err t) h k f g =
    ap Err (h.2
    ∙ ap (λ (n : ℕ). bad_header file (header_row_line m (import_row m.header n)))
    (taken_one literals m.header.imports h.0 k.0 h.1 k.1) ∙ sym k.2)
