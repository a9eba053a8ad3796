use Rattle.engine_controller.proofs.Places.{all_asked}
use Rattle.engine_controller.proofs.laws.delays_of_all_clients.Goals as goal

pub returns : goal.returns
returns g groups passes history h each = all_asked groups passes history h each
