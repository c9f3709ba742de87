use Rattle.std.proofs.Common.{codes, refl}
use Rattle.clap.specs.Words.{found_of, one_text}
use Rattle.tf_options.proofs.Flags.{unset, set}
use Rattle.tf_options.proofs.options.format_in.Goals as goal

pub returns-then-get_flag : goal.returns-then-get_flag
returns-then-get_flag c =
    let given = one_text (found_of c.args.given.now) in
    let never = unset given (codes "json") c.get_flag.result c.get_flag.ensures.none
    c.get_flag.ensures.other c.if-get_flag.true in
    record {
      json = λ _. c.json_format.ensures;
      csv = λ missing _. absurd (never missing);
      summary = λ missing _ _. absurd (never missing);
      text = λ missing _ _. absurd (never missing);
    }

pub returns-then-get_flag-2 : goal.returns-then-get_flag-2
returns-then-get_flag-2 c =
    let given = one_text (found_of c.args.given.now) in
    let on = set given (codes "json") c.get_flag.result c.get_flag.ensures.value
    c.if-get_flag.false in
    let never = unset given (codes "csv") c.get_flag-2.result c.get_flag-2.ensures.none
    c.get_flag-2.ensures.other c.if-get_flag-2.true in
    record {
      json = λ is. absurd (on is);
      csv = λ _ _. c.csv_format.ensures;
      summary = λ _ missing _. absurd (never missing);
      text = λ _ missing _. absurd (never missing);
    }

pub returns-then-get_flag-3 : goal.returns-then-get_flag-3
returns-then-get_flag-3 c =
    let given = one_text (found_of c.args.given.now) in
    let on = set given (codes "json") c.get_flag.result c.get_flag.ensures.value
    c.if-get_flag.false in
    let on_csv = set given (codes "csv") c.get_flag-2.result c.get_flag-2.ensures.value
    c.if-get_flag-2.false in
    let never = unset given (codes "summary") c.get_flag-3.result c.get_flag-3.ensures.none
    c.get_flag-3.ensures.other c.if-get_flag-3.true in
    record {
      json = λ is. absurd (on is);
      csv = λ _ is. absurd (on_csv is);
      summary = λ _ _ _. refl;
      text = λ _ _ missing. absurd (never missing);
    }

pub returns : goal.returns
returns c =
    let given = one_text (found_of c.args.given.now) in
    let on = set given (codes "json") c.get_flag.result c.get_flag.ensures.value
    c.if-get_flag.false in
    let on_csv = set given (codes "csv") c.get_flag-2.result c.get_flag-2.ensures.value
    c.if-get_flag-2.false in
    let on_summary = set given (codes "summary") c.get_flag-3.result c.get_flag-3.ensures.value
    c.if-get_flag-3.false in
    record {
      json = λ is. absurd (on is);
      csv = λ _ is. absurd (on_csv is);
      summary = λ _ _ is. absurd (on_summary is);
      text = λ _ _ _. refl;
    }
