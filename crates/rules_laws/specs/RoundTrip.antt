-- What a plan's bytes say: members and heads that fit their widths are read back from what was written, and what is read is what stands there.
-- The three kinds of members are given once each, by their values in order; all else follows from their forms (crate plan_format, and Members).
use Rattle.std.specs.Prelude.{◌≡◌, refl}
use Rattle.std.proofs.Common.{◌∙◌, arith}
use mathlib.Core.List.{[], ◌∷◌, ◌++◌}
use Rattle.plan_format.specs.Format.{batch_form, job_form}
use Rattle.plan_format.specs.Format.{passes_form}
use Rattle.rules.specs.Plan.{batch_values, batch_bytes, job_values, job_bytes, passes_values, passes_bytes}
use Rattle.rules.specs.declared.Batch.{Batch}
use Rattle.rules.specs.declared.Job.{Job}
use Rattle.rules.specs.declared.Passes.{Passes}
use Rattle.plan_read.specs.PlanRead.{batch_of_values, batch_from, job_of_values, job_from, passes_of_values, passes_from, BatchFits, JobFits}
use Rattle.plan_read.specs.PlanRead.{PassesFits}
use Rattle.plan_read.specs.Laws.{batch_each, job_each, passes_each}
use Rattle.rules_laws.specs.Members.{Kind}

unfoldable pub batch_kind : Kind Batch
unfolding batch_bytes batch_from
batch_kind = record {
  form = batch_form;
  values = batch_values;
  back = batch_of_values;
  read = batch_from;
  bytes = batch_bytes;
  Fits = BatchFits;
  is_written = λ b. refl;
  is_read = λ s at. refl;
  back_values = λ b. refl;
  values_back = λ s at. refl;
  count = λ b. refl;
  small = omega arith;
  each = batch_each;
}

unfoldable pub job_kind : Kind Job
unfolding job_bytes job_from
job_kind = record {
  form = job_form;
  values = job_values;
  back = job_of_values;
  read = job_from;
  bytes = job_bytes;
  Fits = JobFits;
  is_written = λ j. refl;
  is_read = λ s at. refl;
  back_values = λ j. refl;
  values_back = λ s at. refl;
  count = λ j. refl;
  small = omega arith;
  each = job_each;
}

unfoldable pub passes_kind : Kind Passes
unfolding passes_bytes passes_from
passes_kind = record {
  form = passes_form;
  values = passes_values;
  back = passes_of_values;
  read = passes_from;
  bytes = passes_bytes;
  Fits = PassesFits;
  is_written = λ p. refl;
  is_read = λ s at. refl;
  back_values = λ p. refl;
  values_back = λ s at. refl;
  count = λ p. refl;
  small = omega arith;
  each = passes_each;
}
