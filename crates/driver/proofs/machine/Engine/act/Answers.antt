use Rattle.std.proofs.Common.{take, refl, ap, ◌∙◌}
use Rattle.driver.proofs.Acting.{acted_read, acted_write, acted_flush, acted_shows, acted_done, acted_no}
use Rattle.driver.proofs.machine.Engine.act.Goals as goal

pub returns-in_ok-read-in-Read-clause-made : goal.returns-in_ok-read-in-Read-clause-made
returns-in_ok-read-in-Read-clause-made g c a out told w h = let said = c.in_ok-read-in-Read.ensures w.device h in acted_read g.D.Device.stands w a out _ _ _ c.read.new.into _ _ _ _ _ c.in-Read.is told said.0 said.2 refl refl

pub returns-in_ok-write-in-Write-clause-made : goal.returns-in_ok-write-in-Write-clause-made
returns-in_ok-write-in-Write-clause-made g c a out told w h = let said = c.in_ok-write-in-Write.ensures w.device h in acted_write g.D.Device.stands w a out _ _ _ c.front_page-self.result _ _ _ _ _ c.in-Write.is told said.0 (c.front_page-self.ensures.front ∙ ap (take 512) c.as_slice.ensures.value) said.1 c.front_page-self.ensures.bytes refl refl

pub returns-in_ok-flush-in-Flush-clause-made : goal.returns-in_ok-flush-in-Flush-clause-made
returns-in_ok-flush-in-Flush-clause-made g c a out told w h = acted_flush g.D.Device.stands w a out _ _ _ c.args.self.now.page _ _ _ _ c.in-Flush.is told (c.in_ok-flush-in-Flush.ensures w.device h) refl refl

pub returns-in_ok-show-in-Shows-clause-made : goal.returns-in_ok-show-in-Shows-clause-made
returns-in_ok-show-in-Shows-clause-made g c a out told w h = acted_shows g.D.Device.stands w a out _ _ _ c.args.self.now.page _ _ _ _ _ c.in-Shows.is told h c.in_ok-show-in-Shows.ensures.1 refl

pub returns-in-Done-clause-made : goal.returns-in-Done-clause-made
returns-in-Done-clause-made g c a out told w h = acted_done g.D.Device.stands w a out _ _ _ c.args.self.now.page _ _ _ _ c.in-Done.is told h refl refl

pub returns-in_ok-refusal-in-No-clause-made : goal.returns-in_ok-refusal-in-No-clause-made
returns-in_ok-refusal-in-No-clause-made g c a out told w h = let said = c.in_ok-refusal-in-No.ensures in acted_no g.D.Device.stands w a out _ _ _ c.args.self.now.page _ _ _ _ _ _ c.in-No.is told said.0 said.1 said.2 h refl refl
