-- What was built is verified.
use Rattle.std.proofs.Common.{◌≡◌, ◌≢◌, ℕ, List, length, codes, get_or, refl, sym, ap, ◌∙◌, subst, arith}
use Rattle.std.specs.Prelude.{Ok, None}
use Rattle.std.proofs.lemmas.List.{length-map}
use Rattle.sx_rules.specs.Views.{modes_of}
use Rattle.sx_rules.specs.Derivations.{nodes_of}
use Rattle.sx_rules.specs.Orders.{Entry, order_of}
use Rattle.sx_derive.specs.Search.{walk}
use Rattle.sx_derive.proofs.FewNodes.{few_nodes}
use Rattle.sx_replay.specs.Fronts.{whole}
use Rattle.sx_replay.specs.Replay.{IsWithin}
use Rattle.sx_top.specs.CoreTexts.{subject_text, list_text, term_lines}
use Rattle.sx_top.specs.FindFirst.{problem_rules}
use Rattle.sx_rules.specs.Rules.{no_hypotheses}
use Rattle.sx_top.specs.Search.{core_goal_events}
use Rattle.sx_top.specs.ReadCore.{core_file}
use Rattle.sx_top.specs.BuildCore.{core_plan}
use Rattle.sx_verify.specs.Verified.{verified_plan}
use Rattle.sx_top.specs.VerifyLaws.{BuiltIsVerified}
use Rattle.sx_steps.proofs.StepsOn.{went}
use Rattle.sx_top.proofs.Propers.{proper}
use Rattle.sx_top.proofs.BuildPromise.{comes_found, searches_first}
use Rattle.sx_steps.proofs.Units.{same_end, written}
use Rattle.sx_top.proofs.SubjectTexts.{subject_short}
use Rattle.sx_top.proofs.ListTexts.{list_again, same_entries, of_rules, order_length, text_states, text_length}
use Rattle.sx_top.proofs.FoundWithin.{found_within}

-- ---- names

core_base : codes ".core" ≢ codes ".base"
core_base same = let letters : ◌≡◌ {A = ℕ} 99 98 = ap (λ (l : List ℕ). get_or l 1 0) same in absurd (omega arith)

core_der : codes ".core" ≢ codes ".der"
core_der same = let letters : ◌≡◌ {A = ℕ} 99 100 = ap (λ (l : List ℕ). get_or l 1 0) same in absurd (omega arith)

core_int : codes ".core" ≢ codes ".int"
core_int same = let letters : ◌≡◌ {A = ℕ} 99 105 = ap (λ (l : List ℕ). get_or l 1 0) same in absurd (omega arith)

-- ---- one after the other

pub built_verified : BuiltIsVerified
unfolding core_plan
built_verified name budget files p answer reads searches few short =
    let modes = modes_of p.forms in
    let rules = problem_rules p in
    let list = order_of answer.0 in
    let read = went _ _ _ reads in
    let is = proper read.given p read.goes in
    let at = comes_found (core_file name) p budget (walk None budget (core_goal_events p)) answer searches in
    let within = found_within modes rules no_hypotheses is.moded tt p.goal is.shallow None budget answer at in
    let first = searches_first (core_file name) budget p answer is.moded searches in
    let tries = few_nodes modes rules no_hypotheses p.goal None budget 1 answer at in
    let nodes = order_length answer.0 in
    let by_rules = of_rules rules no_hypotheses refl first.derives.0 answer.0 first.derives.3 in
    let states = text_states p.rules (length rules) list is.names is.distinct (length-map p.rules (λ r. r.rule)) by_rules in
    let size = text_length p.rules (length rules) list is.names by_rules in
    let stands = written name (subject_text p.forms p.goal) (list_text p.rules list) (term_lines answer.1) files in
    let core_stands = stands.3 (core_file name) (λ e. core_base (same_end name _ _ e)) (λ e. core_der (same_end name _ _ e)) (λ e. core_int (same_end name _ _ e)) in
    let subject = subject_short read.given p read.goes in
    let core_few = read.begins.1 in
    let some_few = tries.0 in
    let most_few = tries.1 in
    let again : length (list_again list) ≡ nodes_of answer.0 = length-map list _ ∙ nodes in
    let replayed = subst (λ (l : List Entry). IsWithin modes rules no_hypotheses p.goal (whole answer.1) l) (sym (same_entries list)) within in
    record {
      given = Ok p;
      begins = record { given = Ok read.given; begins = (core_stands ∙ read.begins.0, read.begins.1); goes = read.goes };
      goes = record {
        given = Ok tt;
        begins = record { given = Ok (subject_text p.forms p.goal); begins = (stands.0, omega arith); goes = refl };
        goes = record {
          given = Ok (list_again list);
          begins = record { given = Ok (list_text p.rules list); begins = (stands.1, omega arith); goes = states };
          goes = record {
            given = Ok answer.1;
            begins = replayed;
            goes = record {
              given = Ok tt;
              begins = record { given = Ok (term_lines answer.1); begins = (stands.2, short); goes = refl };
              goes = ap (λ (n : ℕ). Ok (verified_plan name n)) (sym again);
            };
          };
        };
      };
    }
