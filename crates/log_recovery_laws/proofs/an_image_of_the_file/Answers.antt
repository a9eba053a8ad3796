use Rattle.log_recovery_laws.proofs.ImageOfFile.{image_front}
use Rattle.log_recovery_laws.proofs.an_image_of_the_file.Goals as goal

pub returns : goal.returns
returns c = record { recovered = λ number image file r is no_other s is_s. image_front number image file no_other r s is is_s }
