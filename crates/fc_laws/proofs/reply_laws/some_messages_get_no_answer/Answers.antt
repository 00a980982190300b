use Rattle.fc_laws.proofs.front.Hushed.{ignored_hushed, no_message_hushed, signal_hushed, signals_on, silence_hushed}
use Rattle.fc_laws.proofs.reply_laws.some_messages_get_no_answer.Goals as goal

pub returns : goal.returns
returns c = record { handed_on = signals_on; signal = signal_hushed; ignored = ignored_hushed; no_message = no_message_hushed; silent = silence_hushed }
