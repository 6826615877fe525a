-- Visits of files.
use Rattle.std.proofs.Common.{◌≡◌, refl, ap, sym, ◌∙◌, subst, Bool, true, false, inl, inr}
use Rattle.std.specs.Prelude.{Option, Some, None, Result, Ok, Err, IsSome, IfSome, is_some}
use Rattle.std.specs.Prelude.{option_map, if◌then◌else◌}
use Rattle.std.specs.Global.{Vec}
use Rattle.sx_outside.specs.Files.{Files}
use Rattle.sx_outside.specs.Told.{WhereTold}
use Rattle.sx_imports.specs.Walk.{Name}
use Rattle.sx_steps.specs.Stop.{Gives}
use Rattle.sx_steps.specs.declared.step_error.StepError.{StepError}
use Rattle.sx_steps.specs.declared.step_error.StepError.TheVariants as errors
use Rattle.sx_steps.proofs.Ones.{some_same, none_some}
use Rattle.sx_walking.specs.Reached.{Found}
use Rattle.sx_walking.specs.Kinds.{WalkKind, StandsOn}
use Rattle.sx_walking.specs.FileTable.{IsFilePut}
use Rattle.sx_walking.specs.Opened.{IsOpened, AreOpened, if_fit, IsBegun}
use Rattle.sx_walking.specs.Turns.{OpensFile, IsVisit}
use Rattle.sx_walking.proofs.Tables.{put_cases, put_same, put_keeps, is_none, is_there}

module _ {A : Type 0} (k : WalkKind A) (told : Option Files) where
  -- ---- the table

  pub put_opened : (name : Name) (x : A) (old new : Found A) → IsOpened k told name x →
      AreOpened k told old → IsFilePut name x old new → AreOpened k told new
  put_opened name x old new o are put other y h = elim (put_cases name x old new put other y h) [
    | inl s ↦ subst (λ (n : Name). IsOpened k told n y) s.0
        (subst (λ (z : A). IsOpened k told name z) s.1 o)
    | inr found ↦ are other y found
  ]

  pub opens_held : (name : Name) (held : Found A) → AreOpened k told held → IsSome (held name) →
      OpensFile k told name held held (Ok tt)
  opens_held name held are is = (λ n x h. h, are, is)

  pub opens_new : (name : Name) (x : A) (old new : Found A) → is_some (old name) ≡ false →
      IsOpened k told name x → AreOpened k told old → IsFilePut name x old new →
      OpensFile k told name old new (Ok tt)
  opens_new name x old new none o are put = (
    put_keeps name x old new put (is_none (old name) none),
    put_opened name x old new o are put,
    is_there (new name) x (put_same name x old new put),
  )

  pub opens_err : {F : Type 0} (says : F → A) (name : Name) (held : Found A) (e : StepError) →
      is_some (held name) ≡ false →
      WhereTold told (λ files. Gives says (k.Reads files name) (Err e)) →
      OpensFile k told name held held (Err e)
  opens_err says name held errors.Memory none step = tt
  opens_err says name held (errors.Stopped stop) none step = (refl, is_none (held name) none, step)

  -- what is held at the begin
  begun : (file : Option A) (held : Found A) → IsBegun k file held → IfSome file k.IsStated →
      WhereTold told (λ files. IfSome file (λ x. k.Reads files (k.name_of x) (Ok x))) →
      AreOpened k told held
  begun None held none stated read = λ other y h. absurd (none_some y (sym (none other) ∙ h))
  begun (Some x) held put stated read =
      put_opened (k.name_of x) x (λ name. None) held
      (record { named = refl; stated = stated; read = read })
      (λ other y h. absurd (none_some y h)) put

  pub begun_opened : {F : Type 0} (says : F → A) (file : Option F) (held : Found A) →
      IsBegun k (option_map says file) held → IfSome file (λ x. k.IsStated (says x)) →
      WhereTold told (λ files. IfSome file (λ x.
      k.Reads files (k.name_of (says x)) (Ok (says x)))) →
      AreOpened k told held
  begun_opened says None held is stated read = begun None held is tt (λ files t. tt)
  begun_opened says (Some file) held is stated read =
      begun (Some (says file)) held is stated read

-- ---- which files fit

module _ {A : Type 0} (k : WalkKind A) where
  pub if_so : (x : A) (o : Option A) → o ≡ Some x → k.fits x ≡ true → if_fit k o ≡ Some x
  if_so x o e f = ap (λ (p : Option A). if_fit k p) e
      ∙ ap (λ (b : Bool). if b then Some x else None) f

  if_other : (x : A) (o : Option A) → o ≡ Some x → k.fits x ≡ false → if_fit k o ≡ None
  if_other x o e f = ap (λ (p : Option A). if_fit k p) e
      ∙ ap (λ (b : Bool). if b then Some x else None) f

  chosen_so : (x y : A) (b : Bool) → k.fits y ≡ b → (if b then Some y else None) ≡ Some x →
      (Some y ≡ Some x) × (k.fits x ≡ true)
  chosen_so x y true e h =
      let same : y ≡ x = some_same y x h in
      (ap (λ (z : A). Some z) same, subst (λ (z : A). k.fits z ≡ true) same e)
  chosen_so x y false e h = absurd (none_some x h)

  -- what is found is held, and fits
  pub found_held : (x : A) (o : Option A) → if_fit k o ≡ Some x → (o ≡ Some x) × (k.fits x ≡ true)
  found_held x None h = absurd (none_some x h)
  found_held x (Some y) h = chosen_so x y (k.fits y) refl h

-- ---- visits

module _ {A : Type 0} (k : WalkKind A) (told : Option Files) (name : Name) (old new : Found A) where
  pub visit_held : (x : A) (r : Result (Vec Name) StepError) →
      OpensFile k told name old new (Ok tt) → Some x ≡ new name →
      Gives (λ (names : Vec Name). names.items) (StandsOn k name x) r →
      IsVisit k told name old new r
  visit_held x (Ok names) o e g = (o.0, o.1, (x, if_so k x (new name) (sym e) g.0, g.1))
  visit_held x (Err errors.Memory) o e g = tt
  visit_held x (Err (errors.Stopped stop)) o e g = (
    o.0,
    o.1,
    if_other k x (new name) (sym e) g.0,
    λ files t. record {
      given = Ok x;
      begins = (o.1 name x (sym e)).read files t;
      goes = (g.0, g.1);
    },
  )

  pub visit_err : (e : StepError) → AreOpened k told old → OpensFile k told name old new (Err e) →
      IsVisit k told name old new (Err e)
  visit_err errors.Memory are o = tt
  visit_err (errors.Stopped stop) are o = (
    λ n x h. subst (λ (f : Found A). f n ≡ Some x) (sym o.0) h,
    subst (λ (f : Found A). AreOpened k told f) (sym o.0) are,
    ap (λ (f : Found A). if_fit k (f name)) o.0 ∙ ap (λ (p : Option A). if_fit k p) o.1,
    λ files t. record { given = Err stop; begins = o.2 files t; goes = refl },
  )
