-- The first of the lines of jobs that are left.
use Rattle.std.specs.Prelude.{◌≡◌, ℕ, false, List, [], ◌∷◌, Ok}
use Rattle.std.specs.List.{before_first}
use Rattle.tf_words.specs.Words.{Line}
use Rattle.tf_model.specs.JobFields.{JobFields}
use Rattle.tf_read.specs.Faults.{Fails}
use Rattle.tf_read.specs.JobTable.{is_arc, since_first, job_line}
use Rattle.tf_read.specs.declared.fault.ReadFault.{ReadFault}

-- there is none: no line is left, or the first one is of an arc
pub record HasNoJob (all : List Line) : Type 0 where
  pub none : before_first is_arc all ≡ []
  pub left : since_first is_arc all ≡ all

-- it is that of job k, and others follow it
pub record BeginsWithJob (k : ℕ) (all : List Line) (job : JobFields) (others : List Line) : Type 0
  where
    pub line : Line
    pub is : all ≡ line ∷ others
    pub no_arc : is_arc line ≡ false
    pub read : job_line k line ≡ Ok job

-- it is to be that of job k, and has a fault
pub record BeginsWithFault (k : ℕ) (all : List Line) (fault : ReadFault) : Type 0 where
  pub line : Line
  pub others : List Line
  pub is : all ≡ line ∷ others
  pub no_arc : is_arc line ≡ false
  pub fails : Fails fault (job_line k line)
