-- A job shop where each route is of all machines in the order of their numbers is a flow shop.
use Rattle.std.proofs.Common.{◌≡◌, ℕ, refl, sym, ap, ◌∙◌, subst, IsTrue}
use Rattle.std.specs.List.{AllPairs, range_with_len}
use Rattle.std.proofs.lemmas.Bool.{true≢false}
use Rattle.tf_model.specs.declared.problem.Env.TheVariants.{JobShop}
use Rattle.tf_model.specs.declared.problem.Goal.{Goal}
use Rattle.tf_model.specs.declared.problem.Goal.TheVariants as goals
use Rattle.tf_model.specs.ClassTable.{is_shop_env}
use Rattle.tf_model.specs.Timetable.{Timetable}
use Rattle.tf_posed.specs.ProblemData.{ProblemData, IsProblemJob, problem_job, route_by, route_of}
use Rattle.tf_posed.specs.FitsProblem.{FitsProblem, VisitsFirst}
use Rattle.tf_posed.specs.ProblemCost.{problem_cost_by}
use Rattle.tf_problem.specs.FlowAgreement.{in_flow_shop, IsSameProblem}

module _ (k : ProblemData) (shop : IsTrue (is_shop_env k.problem.env))
    (routes : (j : ℕ) → IsProblemJob k j → route_of k j ≡ range_with_len 0 k.machines)
    (rows : Timetable) where
  to_flow : FitsProblem k rows → FitsProblem (in_flow_shop k) rows
  to_flow fits = record {
    width = fits.width;
    jobs_only = fits.jobs_only;
    single_place = fits.single_place;
    amount = λ j low high. record {
      in_all = λ none. absurd (true≢false none);
      on_each = λ _. (fits.amount j low high).on_each shop;
    };
    unbroken = λ whole j low high. record {
      no_gap = (fits.unbroken whole j low high).no_gap;
      one_machine = λ none. absurd (true≢false none);
    };
    released = fits.released;
    in_order = fits.in_order;
    on_route = λ j low high.
        subst (AllPairs (VisitsFirst rows j)) (routes j (low, high)) (fits.on_route j low high);
    one_order = fits.one_order;
    without_wait = fits.without_wait;
  }

  from_flow : FitsProblem (in_flow_shop k) rows → FitsProblem k rows
  from_flow fits = record {
    width = fits.width;
    jobs_only = fits.jobs_only;
    single_place = fits.single_place;
    amount = λ j low high. record {
      in_all = λ none. absurd (true≢false (sym shop ∙ none));
      on_each = λ _. (fits.amount j low high).on_each refl;
    };
    unbroken = λ whole j low high. record {
      no_gap = (fits.unbroken whole j low high).no_gap;
      one_machine = λ none. absurd (true≢false (sym shop ∙ none));
    };
    released = fits.released;
    in_order = fits.in_order;
    on_route = λ j low high.
        subst (AllPairs (VisitsFirst rows j)) (sym (routes j (low, high))) (fits.on_route j low high);
    one_order = fits.one_order;
    without_wait = fits.without_wait;
  }

pub flow-agrees : (k : ProblemData) → k.problem.env ≡ JobShop
    → ((j : ℕ) → IsProblemJob k j → (problem_job k j).route ≡ range_with_len 0 k.machines)
    → IsSameProblem k (in_flow_shop k)
flow-agrees k shop routes = record {
  fits = λ rows. (
    to_flow k (ap is_shop_env shop) is_route rows,
    from_flow k (ap is_shop_env shop) is_route rows,
  );
  costs = λ rows. same k.problem.goal rows;
}
  where
    same : (g : Goal) (rows : Timetable)
        → problem_cost_by g k rows ≡ problem_cost_by g (in_flow_shop k) rows
    same goals.Cmax rows = refl
    same goals.Lmax rows = refl
    same goals.Hmax rows = refl
    same goals.SumC rows = refl
    same goals.SumWC rows = refl
    same goals.SumT rows = refl
    same goals.SumWT rows = refl
    same goals.SumU rows = refl
    same goals.SumWU rows = refl

    is_route : (j : ℕ) → IsProblemJob k j → route_of k j ≡ range_with_len 0 k.machines
    is_route j h = ap (λ e. route_by e k j) shop ∙ routes j h
