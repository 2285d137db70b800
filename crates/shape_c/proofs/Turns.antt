-- The first of the faults of three tables in turn.
use Rattle.std.proofs.Common.{◌≡◌, ℕ, List, None, Some, sym}
use Rattle.gsub.specs.Tables.{gsub_faults}
use Rattle.layout.proofs.Firsts.{first-before, first-behind}
use Rattle.layout.specs.Faults.{first_in}
use Rattle.layout.specs.declared.fault.Report.{Report}
use Rattle.table_font.specs.TableFont.{font_faults}
use Rattle.shape_c.specs.Calls.{faults_in_turn, one_metric}

pub gsub_before : (gsub cmap gdef : List ℕ) (f : Report) → Some f ≡ first_in (gsub_faults gsub) → Some f ≡ first_in (faults_in_turn gsub cmap gdef)
unfolding faults_in_turn
gsub_before gsub cmap gdef f e = sym (first-before (gsub_faults gsub) (font_faults cmap gdef one_metric 1) f (sym e))

pub font_behind : (gsub cmap gdef : List ℕ) → None ≡ first_in (gsub_faults gsub) → first_in (faults_in_turn gsub cmap gdef) ≡ first_in (font_faults cmap gdef one_metric 1)
unfolding faults_in_turn
font_behind gsub cmap gdef e = first-behind (gsub_faults gsub) (font_faults cmap gdef one_metric 1) (sym e)
