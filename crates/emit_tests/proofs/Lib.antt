mod Few
