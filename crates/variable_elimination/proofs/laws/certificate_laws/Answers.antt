-- Certificates over the named rows.
use Rattle.variable_elimination.proofs.ProvenLaws.{proves, refutes}
use Rattle.variable_elimination.proofs.laws.certificate_laws.Goals as goal

pub returns-clause-bounds : goal.returns-clause-bounds
returns-clause-bounds c rows vars reduced s y l positive are keep bounds = proves rows vars reduced y l are s positive keep bounds

pub returns-clause-refutes : goal.returns-clause-refutes
returns-clause-refutes c rows vars reduced y l are keep refute = refutes rows vars reduced y l are keep refute
