-- Files that are reached stand after those that they stand on.
use Rattle.std.proofs.Common.{◌≡◌, List, [], ◌∷◌, ◌++◌, map, refl, ap, sym, ◌∙◌, subst, ℕ}
use Rattle.std.specs.Prelude.{Option, Some, Result, Ok, Err, Contains, option_map}
use Rattle.sx_outside.specs.Files.{Files}
use Rattle.sx_imports.specs.Walk.{Name, End, Walks}
use Rattle.sx_imports.specs.Laws.{StandsAfter, is_root}
use Rattle.sx_imports.proofs.Wholes.{order_is_whole}
use Rattle.sx_steps.specs.declared.stop.Stop.{Stop}
use Rattle.sx_steps.proofs.StepsOn.{went}
use Rattle.sx_steps.proofs.Ones.{some_same}
use Rattle.sx_walking.specs.Reached.{Found, uses_in, AreVisitsFound, IsWalkTold, Reaches}
use Rattle.sx_walking.specs.Kinds.{WalkKind, FileFits, Visits}
use Rattle.sx_walking.specs.Laws.{ReadsUnderNames, ComesAfter, AllComeAfter, AreVisited}
use Rattle.sx_walking.specs.Laws.{ThoseComeFirst}

module _ {A : Type 0} (name_of : A → Name) where
  names_append : (before after : List A) (x : A) →
      map name_of (before ++ x ∷ after) ≡ map name_of before ++ name_of x ∷ map name_of after
  names_append [] after x = refl
  names_append (first ∷ before) after x =
      ap (λ (l : List Name). name_of first ∷ l) (names_append before after x)

  -- each visit of a name gives a file of that name
  abbrev pub VisitsNamed : (Name → Result A Stop → Type 0) → Type 0
  VisitsNamed Comes = (name : Name) (x : A) → Comes name (Ok x) → name_of x ≡ name

module _ {A : Type 0} (name_of : A → Name) (uses : A → List Name)
    (Comes : Name → Result A Stop → Type 0) (named : VisitsNamed name_of Comes) where
  module _ (found : Found A) (visited : AreVisitsFound Comes found) where
    pub names_are : (order : List Name) (xs : List A) → map found order ≡ map Some xs →
        map name_of xs ≡ order
    names_are [] [] e = refl
    names_are [] (x ∷ xs) e = absurd cc
    names_are (name ∷ names) [] e = absurd cc
    names_are (name ∷ names) (x ∷ xs) e =
        let a : found name ≡ Some x = cc in
        let b : map found names ≡ map Some xs = cc in
        let head = named name x (visited name x a) in
        let tail = names_are names xs b in
        λ i. head i ∷ tail i

    found_at : (before after : List A) (x : A) →
        map found (map name_of (before ++ x ∷ after)) ≡ map Some (before ++ x ∷ after) →
        found (name_of x) ≡ Some x
    found_at [] after x e = cc
    found_at (first ∷ before) after x e =
        let f : map found (map name_of (before ++ x ∷ after))
        ≡ map Some (before ++ x ∷ after) = cc in
        found_at before after x f

    all_visited : (xs : List A) → map found (map name_of xs) ≡ map Some xs →
        AreVisited name_of Comes xs
    all_visited [] e = tt
    all_visited (x ∷ xs) e =
        let a : found (name_of x) ≡ Some x = cc in
        let b : map found (map name_of xs) ≡ map Some xs = cc in
        (visited (name_of x) x a, all_visited xs b)

    after_those : (before : List A) (x : A) → found (name_of x) ≡ Some x →
        StandsAfter (uses_in uses found) (map name_of before) (name_of x) →
        ComesAfter name_of uses before x
    after_those before x is s =
        let same : s.lines ≡ uses x = some_same s.lines (uses x)
        (sym s.is ∙ ap (λ (o : Option A). option_map uses o) is) in
        record {
          once = s.once;
          after_them = λ name h.
              s.after_them name (subst (λ (l : List Name). Contains l name) (sym same) h);
        }

    module _ (roots : List Name) (xs : List A)
        (walks : Walks (uses_in uses found) 256 roots (Ok (map name_of xs)))
        (e : map found (map name_of xs) ≡ map Some xs) where
      stands : AllComeAfter name_of uses xs
      stands before after x is =
          after_those before x
          (found_at before after x
          (subst (λ (l : List A). map found (map name_of l) ≡ map Some l) is e))
          ((order_is_whole (uses_in uses found) 256 roots (map name_of xs) walks).0
          (map name_of before) (map name_of after) (name_of x)
          (ap (map name_of) is ∙ names_append name_of before after x))

      has_roots : (name : Name) → Contains roots name → Contains (map name_of xs) name
      has_roots name h =
          ((order_is_whole (uses_in uses found) 256 roots (map name_of xs) walks).1 name).1
          (is_root h)

      all_hold : AllComeAfter name_of uses xs × AreVisited name_of Comes xs ×
          ((name : Name) → Contains roots name → Contains (map name_of xs) name)
      all_hold = (stands, all_visited xs e, has_roots)

  module _ (file : List ℕ) (roots : List Name) (xs : List A) where
    come_by : (found : Found A) (visited : AreVisitsFound Comes found) (order : List Name) →
        Walks (uses_in uses found) 256 roots (Ok order) → map found order ≡ map Some xs →
        AllComeAfter name_of uses xs × AreVisited name_of Comes xs ×
        ((name : Name) → Contains roots name → Contains (map name_of xs) name)
    come_by found visited order walks told =
        let same : map name_of xs ≡ order = names_are found visited order xs told in
        all_hold found visited roots xs
        (subst (λ (l : List Name). Walks (uses_in uses found) 256 roots (Ok l)) (sym same) walks)
        (subst (λ (l : List Name). map found l ≡ map Some xs) (sym same) told)

    end_hold : (found : Found A) (visited : AreVisitsFound Comes found) (end : End) →
        Walks (uses_in uses found) 256 roots end → IsWalkTold Comes file found end (Ok xs) →
        AllComeAfter name_of uses xs × AreVisited name_of Comes xs ×
        ((name : Name) → Contains roots name → Contains (map name_of xs) name)
    end_hold found visited (Ok order) walks told = come_by found visited order walks told
    end_hold found visited (Err why) walks told = absurd told

    -- each file that is reached stands after all that it stands on, and the roots are among them
    pub reached_first : Reaches uses Comes file roots (Ok xs) →
        AllComeAfter name_of uses xs × AreVisited name_of Comes xs ×
        ((name : Name) → Contains roots name → Contains (map name_of xs) name)
    reached_first reads = end_hold reads.found reads.visited reads.end reads.walks reads.told

module _ {A : Type 0} (k : WalkKind A) (files : Files) (named : ReadsUnderNames k files) where
  pub visits_named : VisitsNamed k.name_of (Visits k files)
  visits_named name x reads =
      let w = went (k.Reads files name) (FileFits k name) x reads in
      ap k.name_of w.goes.1 ∙ named name w.given w.begins

pub those_first : {A : Type 0} (k : WalkKind A) → ThoseComeFirst k
those_first k files named file roots xs reads =
    reached_first k.name_of k.stands_on (Visits k files) (visits_named k files named) file roots xs
    reads
