-- What is said on standard error.
use Rattle.std.proofs.Common.{ℕ, List, [], ◌++◌, Option, Bool, refl, sym, subst, append-nil, append_assoc}
use Rattle.tf_text.specs.declared.counted.Counted.{Counted}
use Rattle.tf_command.specs.Ending.{SaysLine}
use Rattle.tf_command.specs.Wrote.{Wrote}
use Rattle.tf_command.proofs.Writing.{both}

-- a line alone
pub says_alone : {E : Type 0} {contents : E → Option (List ℕ)} {explain : Bool}
    {old new : Counted E} {line : List ℕ} → Wrote contents old new line
    → SaysLine contents explain old new line
says_alone {contents = contents} {old = old} {new = new} {line = line} wrote = record {
  explanation = [];
  wrote = subst (Wrote contents old new) (sym (append-nil line)) wrote;
  alone = λ _. refl;
}

-- a line, and what is explained later
pub says_more : {E : Type 0} {contents : E → Option (List ℕ)} {explain : Bool}
    {old mid new : Counted E} {line : List ℕ} → SaysLine contents explain old mid line
    → SaysLine contents explain mid new [] → SaysLine contents explain old new line
says_more {contents = contents} {old = old} {mid = mid} {new = new} {line = line} said more = record {
  explanation = said.explanation ++ more.explanation;
  wrote = subst (Wrote contents old new) (append_assoc line said.explanation more.explanation)
      (both contents old mid new (line ++ said.explanation) more.explanation said.wrote more.wrote);
  alone = λ no. rw (said.alone no) (more.alone no);
}

-- a line that was written, and what is explained
pub says_explained : {E : Type 0} {contents : E → Option (List ℕ)} {explain : Bool}
    {old mid new : Counted E} {line : List ℕ} → Wrote contents old mid line
    → SaysLine contents explain mid new [] → SaysLine contents explain old new line
says_explained wrote more = says_more (says_alone wrote) more
