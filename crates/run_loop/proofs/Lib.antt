mod HintsGrow
