-- What words that name auditors keep.
use Rattle.std.proofs.Common.{◌≡◌, ℕ, Bool, true, false, ◌||◌, if◌then◌else◌, List, [], ◌∷◌, ◌++◌}
use Rattle.std.proofs.Common.{map, Some, None, Ok, Err, ap, sym, refl, subst, ◌∙◌, arith}
use Rattle.std.specs.Prelude.{Option, Result, MatchOption, Contains}
use Rattle.std.specs.Str.{bytes_eq}
use Rattle.std.proofs.lemmas.List.Concat.{flat_map-cons}
use Rattle.std.proofs.lemmas.List.Elements.{Contains-append_left, Contains-append_right}
use Rattle.std.proofs.lemmas.Slice.Eq.{bytes_eq-Decides}
use Rattle.sx_words.specs.Commands.{AuditWord, has_kind}
use Rattle.sx_steps.specs.declared.stop.Stop.{Stop}
use Rattle.sx_steps.specs.Refusal.{bad_word}
use Rattle.sx_audit.specs.Kinds.{listed_names, of_names, deny_kind}
use Rattle.sx_audit.specs.Meaning.{AuditState, Kind, Meaning}
use Rattle.sx_auditing.specs.Laws.{first_named, IsAuditorKept, denying}
use Rattle.sx_auditing.proofs.Sets.{mapped, sets-this, sets-later}
use Rattle.sx_auditing.specs.Naming.{Slot, unset, set_to, set_first, Sets, set_ones, Names}

-- ---- one answer

match-once : {A R : Type 0} (o : Option A) (stop one other : R) (Q : A → R → Type 0) →
    ((x : A) → Q x one → Q x other → one ≡ other) →
    MatchOption o (one ≡ stop) (λ x. Q x one) → MatchOption o (other ≡ stop) (λ x. Q x other) →
    one ≡ other
match-once None stop one other Q again h k = h ∙ sym k
match-once (Some x) stop one other Q again h k = again x h k

sets-once : (audits : List AuditWord) (slots : List Slot) (one other : Result (List Slot) Stop) →
    Sets audits slots one → Sets audits slots other → one ≡ other
sets-once [] slots one other h k = h ∙ sym k
sets-once (a ∷ audits) slots one other h k =
    match-once (set_first a slots) (Err (bad_word a.word)) one other
    (λ new result. Sets audits new result) (λ new. sets-once audits new one other) h k

pub names-once : (handed : List Meaning) (audits : List AuditWord)
    (one other : Result (List Meaning) Stop) →
    Names handed audits one → Names handed audits other → one ≡ other
names-once handed audits (Ok x) (Ok y) h k =
    let same = sets-once audits (map unset handed) (Ok h.0) (Ok k.0) h.1 k.1 in
    let slots : h.0 ≡ k.0 = cc in
    ap Ok (h.2 ∙ ap set_ones slots ∙ sym k.2)
names-once handed audits (Ok x) (Err stop) h k =
    absurd (let same = sets-once audits (map unset handed) (Ok h.0) (Err stop) h.1 k in cc)
names-once handed audits (Err stop) (Ok y) h k =
    absurd (let same = sets-once audits (map unset handed) (Err stop) (Ok k.0) h k.1 in cc)
names-once handed audits (Err stop) (Err other) h k =
    let same = sets-once audits (map unset handed) (Err stop) (Err other) h k in
    let stops : stop ≡ other = cc in
    ap Err stops

-- ---- the first slot of a name

abbrev slot_first : List ℕ → List Slot → Option Slot
slot_first name [] = None
slot_first name (s ∷ slots) = if bytes_eq s.auditor.kind.name name then Some s
    else slot_first name slots

module _ (name : List ℕ) (s : Slot) (slots : List Slot) where
  is-first : bytes_eq s.auditor.kind.name name ≡ true → slot_first name (s ∷ slots) ≡ Some s
  is-first e = ap (λ (b : Bool). if b then Some s else slot_first name slots) e

  is-later : bytes_eq s.auditor.kind.name name ≡ false →
      slot_first name (s ∷ slots) ≡ slot_first name slots
  is-later e = ap (λ (b : Bool). if b then Some s else slot_first name slots) e

-- what a setting makes of a slot
record SetTo (setting : List ℕ) (s t : Slot) : Type 0 where
  state : AuditState
  takes : s.auditor.kind.takes setting ≡ Some state
  auditor : t.auditor ≡ record { kind = s.auditor.kind; state = state }
  is_set : t.is_set ≡ true

set-to : (setting : List ℕ) (s t : Slot) → set_to setting s ≡ Some t → SetTo setting s t
set-to setting s t e =
    let m = mapped _ (s.auditor.kind.takes setting) t e in
    record {
      state = m.it;
      takes = m.is;
      auditor = ap (λ (x : Slot). x.auditor) (sym m.gives);
      is_set = ap (λ (x : Slot). x.is_set) (sym m.gives);
    }

-- the word sets the first slot of its kind
record SetHere (a : AuditWord) (s : Slot) (new : List Slot) : Type 0 where
  slot : Slot
  set : SetTo a.setting s slot
  first : slot_first a.kind new ≡ Some slot

set-this : (a : AuditWord) (x s : Slot) (slots new : List Slot) →
    bytes_eq x.auditor.kind.name a.kind ≡ true → set_first a (x ∷ slots) ≡ Some new →
    slot_first a.kind (x ∷ slots) ≡ Some s → SetHere a s new
set-this a x s slots new b e f =
    let m = mapped (λ n. n ∷ slots) (set_to a.setting x) new (sym (sets-this a x slots b) ∙ e) in
    let found : Some x ≡ Some s = sym (is-first a.kind x slots b) ∙ f in
    let same : x ≡ s = cc in
    let t = set-to a.setting x m.it m.is in
    let kind = ap (λ (y : Meaning). bytes_eq y.kind.name a.kind) t.auditor ∙ b in
    record {
      slot = m.it;
      set = subst (λ (y : Slot). SetTo a.setting y m.it) same t;
      first = ap (slot_first a.kind) (sym m.gives) ∙ is-first a.kind m.it slots kind;
    }

set-here : (a : AuditWord) (slots new : List Slot) (s : Slot) → set_first a slots ≡ Some new →
    slot_first a.kind slots ≡ Some s → SetHere a s new
set-here a [] new s e f = absurd cc
set-here a (x ∷ slots) new s e f = go (bytes_eq x.auditor.kind.name a.kind) refl
    (λ (rest : List Slot). set-here a slots rest s)
  where
    go : (b : Bool) → bytes_eq x.auditor.kind.name a.kind ≡ b →
        ((rest : List Slot) → set_first a slots ≡ Some rest → slot_first a.kind slots ≡ Some s →
        SetHere a s rest) → SetHere a s new
    go true b again = set-this a x s slots new b e f
    go false b again =
        let m = mapped (λ rest. x ∷ rest) (set_first a slots) new
        (sym (sets-later a x slots b) ∙ e) in
        let r = again m.it m.is (sym (is-later a.kind x slots b) ∙ f) in
        record {
          slot = r.slot;
          set = r.set;
          first = ap (slot_first a.kind) (sym m.gives) ∙ is-later a.kind x m.it b ∙ r.first;
        }

-- it leaves that of another name
set-other : (a : AuditWord) (name : List ℕ) (slots new : List Slot) →
    bytes_eq a.kind name ≡ false → set_first a slots ≡ Some new →
    slot_first name new ≡ slot_first name slots
set-other a name [] new d e = absurd cc
set-other a name (x ∷ slots) new d e = go (bytes_eq x.auditor.kind.name a.kind) refl
    (λ (rest : List Slot). set-other a name slots rest d)
  where
    go : (b : Bool) → bytes_eq x.auditor.kind.name a.kind ≡ b →
        ((rest : List Slot) → set_first a slots ≡ Some rest →
        slot_first name rest ≡ slot_first name slots) →
        slot_first name new ≡ slot_first name (x ∷ slots)
    go true b again =
        let m = mapped (λ n. n ∷ slots) (set_to a.setting x) new
        (sym (sets-this a x slots b) ∙ e) in
        let t = set-to a.setting x m.it m.is in
        let named = (bytes_eq-Decides x.auditor.kind.name a.kind).0 b in
        let here = ap (λ (n : List ℕ). bytes_eq n name) named ∙ d in
        let there = ap (λ (y : Meaning). bytes_eq y.kind.name name) t.auditor ∙ here in
        ap (slot_first name) (sym m.gives) ∙ is-later name m.it slots there
        ∙ sym (is-later name x slots here)
    go false b again =
        let m = mapped (λ rest. x ∷ rest) (set_first a slots) new
        (sym (sets-later a x slots b) ∙ e) in
        ap (slot_first name) (sym m.gives)
        ∙ ap (λ (o : Option Slot). if bytes_eq x.auditor.kind.name name then Some x else o)
        (again m.it m.is)

-- the first slot of a name has the kind of another
record HasKind (name : List ℕ) (slots : List Slot) (kind : Kind) : Type 0 where
  slot : Slot
  first : slot_first name slots ≡ Some slot
  kind_is : slot.auditor.kind ≡ kind

set-kind : (a : AuditWord) (name : List ℕ) (slots new : List Slot) (kind : Kind) →
    set_first a slots ≡ Some new → HasKind name slots kind → HasKind name new kind
set-kind a name slots new kind e h = go (bytes_eq a.kind name) refl
  where
    go : (b : Bool) → bytes_eq a.kind name ≡ b → HasKind name new kind
    go true b =
        let named = (bytes_eq-Decides a.kind name).0 b in
        let r = set-here a slots new h.slot e
        (ap (λ (n : List ℕ). slot_first n slots) named ∙ h.first) in
        record {
          slot = r.slot;
          first = ap (λ (n : List ℕ). slot_first n new) (sym named) ∙ r.first;
          kind_is = ap (λ (m : Meaning). m.kind) r.set.auditor ∙ h.kind_is;
        }
    go false b = record {
      slot = h.slot;
      first = set-other a name slots new b e ∙ h.first;
      kind_is = h.kind_is;
    }

-- ---- all words

abbrev ended : List Slot → Result (List Slot) Stop
ended last = Ok last

abbrev stopped : AuditWord → Result (List Slot) Stop
stopped a = Err (bad_word a.word)

-- what the first of words makes, where no word stops
record Begun (a : AuditWord) (audits : List AuditWord) (slots last : List Slot) : Type 0 where
  new : List Slot
  sets : set_first a slots ≡ Some new
  goes : Sets audits new (Ok last)

begun : (a : AuditWord) (audits : List AuditWord) (slots last : List Slot) →
    Sets (a ∷ audits) slots (Ok last) → Begun a audits slots last
begun a audits slots last h = go (set_first a slots) refl h
  where
    go : (o : Option (List Slot)) → set_first a slots ≡ o →
        MatchOption o (ended last ≡ stopped a) (λ new. Sets audits new (Ok last)) →
        Begun a audits slots last
    go None e k = absurd cc
    go (Some new) e k = record { new = new; sets = e; goes = k }

-- the words before others
record Between (behind : List AuditWord) (name : List ℕ) (kind : Kind) (last : List Slot) : Type 0
  where
    mid : List Slot
    goes : Sets behind mid (Ok last)
    has : HasKind name mid kind

sets-before : (before behind : List AuditWord) (name : List ℕ) (kind : Kind)
    (slots last : List Slot) → Sets (before ++ behind) slots (Ok last) → HasKind name slots kind →
    Between behind name kind last
sets-before [] behind name kind slots last h k = record { mid = slots; goes = h; has = k }
sets-before (b ∷ before) behind name kind slots last h k =
    let g = begun b (before ++ behind) slots last h in
    sets-before before behind name kind g.new last g.goes
    (set-kind b name slots g.new kind g.sets k)

neither : (a b : Bool) → (a || b) ≡ false → (a ≡ false) × (b ≡ false)
neither false false h = (refl, refl)
neither false true h = absurd cc
neither true b h = absurd cc

-- the words after the last of a kind
sets-behind : (behind : List AuditWord) (name : List ℕ) (slots last : List Slot) →
    has_kind behind name ≡ false → Sets behind slots (Ok last) →
    slot_first name last ≡ slot_first name slots
sets-behind [] name slots last n h =
    let same : last ≡ slots = cc in ap (slot_first name) same
sets-behind (b ∷ behind) name slots last n h =
    let g = begun b behind slots last h in
    let d = neither (bytes_eq b.kind name) (has_kind behind name) n in
    sets-behind behind name g.new last d.1 g.goes ∙ set-other b name slots g.new d.0 g.sets

-- what is set is kept
abbrev ones-of : Slot → List Meaning
ones-of s = if s.is_set then s.auditor ∷ [] else []

is-kept : (name : List ℕ) (slots : List Slot) (t : Slot) → slot_first name slots ≡ Some t →
    t.is_set ≡ true → Contains (set_ones slots) t.auditor
is-kept name [] t e s = absurd cc
is-kept name (x ∷ slots) t e s = go (bytes_eq x.auditor.kind.name name) refl
    (λ f. is-kept name slots t f s)
  where
    whole : set_ones (x ∷ slots) ≡ ones-of x ++ set_ones slots
    whole = flat_map-cons (λ (y : Slot). if y.is_set then y.auditor ∷ [] else []) x slots

    go : (b : Bool) → bytes_eq x.auditor.kind.name name ≡ b →
        (slot_first name slots ≡ Some t → Contains (set_ones slots) t.auditor) →
        Contains (set_ones (x ∷ slots)) t.auditor
    go true b again =
        let found : Some x ≡ Some t = sym (is-first name x slots b) ∙ e in
        let same : x ≡ t = cc in
        let here : ones-of x ≡ t.auditor ∷ [] =
        ap ones-of same ∙ ap (λ (c : Bool). if c then t.auditor ∷ [] else []) s in
        subst (λ (ms : List Meaning). Contains ms t.auditor)
        (sym (whole ∙ ap (λ (ms : List Meaning). ms ++ set_ones slots) here))
        (Contains-append_left (t.auditor ∷ []) (set_ones slots) t.auditor (0, omega arith, refl))
    go false b again =
        subst (λ (ms : List Meaning). Contains ms t.auditor) (sym whole)
        (Contains-append_right (ones-of x) (set_ones slots) t.auditor
        (again (sym (is-later name x slots b) ∙ e)))

-- the first slot of those that are handed in
handed-first : (name : List ℕ) (handed : List Meaning) (one : Meaning) →
    first_named name handed ≡ Some one → slot_first name (map unset handed) ≡ Some (unset one)
handed-first name [] one e = absurd cc
handed-first name (m ∷ handed) one e = go (bytes_eq m.kind.name name) refl
    (handed-first name handed one)
  where
    go : (b : Bool) → bytes_eq m.kind.name name ≡ b →
        (first_named name handed ≡ Some one →
        slot_first name (map unset handed) ≡ Some (unset one)) →
        slot_first name (map unset (m ∷ handed)) ≡ Some (unset one)
    go true b again =
        let found : Some m ≡ Some one =
        sym (ap (λ (c : Bool). if c then Some m else first_named name handed) b) ∙ e in
        let same : m ≡ one = cc in
        is-first name (unset m) (map unset handed) b
        ∙ ap (λ (x : Meaning). Some (unset x)) same
    go false b again =
        is-later name (unset m) (map unset handed) b
        ∙ again (sym (ap (λ (c : Bool). if c then Some m else first_named name handed) b) ∙ e)

module _ (handed kept : List Meaning) (before : List AuditWord) (a : AuditWord)
    (behind : List AuditWord) (alone : has_kind behind a.kind ≡ false)
    (h : Names handed (before ++ a ∷ behind) (Ok kept)) (one : Meaning)
    (first : first_named a.kind handed ≡ Some one) where
  between : Between (a ∷ behind) a.kind one.kind h.0
  between = sets-before before (a ∷ behind) a.kind one.kind (map unset handed) h.0 h.1
      (record { slot = unset one; first = handed-first a.kind handed one first; kind_is = refl })

  pub word-kept : IsAuditorKept kept one a.setting
  word-kept =
      let g = begun a behind between.mid h.0 between.goes in
      let r = set-here a between.mid g.new between.has.slot g.sets between.has.first in
      let last = sets-behind behind a.kind g.new h.0 alone g.goes ∙ r.first in
      let kind = between.has.kind_is in
      record {
        state = r.set.state;
        takes = ap (λ (k : Kind). k.takes a.setting) (sym kind) ∙ r.set.takes;
        stands = subst (λ (m : Meaning). Contains kept m)
            (r.set.auditor
            ∙ ap (λ (k : Kind).
            let m : Meaning = record { kind = k; state = r.set.state } in m) kind)
            (subst (λ (ms : List Meaning). Contains ms r.slot.auditor) (sym h.2)
            (is-kept a.kind h.0 r.slot last r.set.is_set));
      }

  pub deny-kept : one.kind ≡ deny_kind a.kind →
      (names : List (List ℕ)) × (listed_names a.setting ≡ Some names)
      × Contains kept (denying a.kind names)
  deny-kept kind =
      let taken = sym (ap (λ (k : Kind). k.takes a.setting) kind) ∙ word-kept.takes in
      let m = mapped of_names (listed_names a.setting) word-kept.state taken in (
        m.it,
        m.is,
        subst (λ (x : Meaning). Contains kept x)
            (ap (λ (k : Kind). let x : Meaning = record { kind = k; state = word-kept.state } in x)
            kind
            ∙ ap (λ (s : AuditState).
            let x : Meaning = record { kind = deny_kind a.kind; state = s } in x)
            (sym m.gives)) word-kept.stands,
      )
